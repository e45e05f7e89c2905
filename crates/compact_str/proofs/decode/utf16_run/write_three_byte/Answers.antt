use Rattle.std.proofs.Common.{◌-◌, ◌+◌, ◌∙◌, ◌++◌, ap, take, arith}
use Rattle.std.proofs.lemmas.Simd.{pick_l_left, pick_l-range_with_len}
use Rattle.std.specs.List.{flat_map, range_with_len}
use Rattle.compact_str.proofs.UnitRuns.{block_after, three, three_front}
use Rattle.compact_str.proofs.decode.utf16_run.write_three_byte.Goals as goal

pub returns-clause-bytes : goal.returns-clause-bytes
returns-clause-bytes c =
    let block = c.args.block in
    block_after c.args.buffer.now c.three_bytes.result c.args.at (c.args.at + 16 - c.args.at) 12
    (omega arith) (omega (arith, c.told-buffer, c.requires.room)) (omega arith)
    ∙ ap (λ l. take c.args.at c.args.buffer.now ++ l)
    (c.three_bytes.ensures ∙ ap (flat_map three) (pick_l_left 0 block block 16 (range_with_len 0 4) c.fits-block.0 tt ∙ pick_l-range_with_len 0 block 0 4 (omega arith))
    ∙ three_front (take 4 block) c.requires.first)
