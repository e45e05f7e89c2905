use Rattle.std.proofs.Common.{◌-◌, ◌<◌, ◌+◌, ◌∙◌, ◌++◌, ap, take, arith, leb}
use Rattle.std.proofs.lemmas.Bool.{leb-false, lt-leb}
use Rattle.compact_str.proofs.UnitRuns.{block_after, count_some, front_has, ascii_front, IsOwn, low_own}
use Rattle.compact_str.proofs.decode.utf16_run.write_ascii.Goals as goal

pub returns-clause-some : goal.returns-clause-some
returns-clause-some c =
    count_some (leb 128) c.args.block c.ascii_count.result c.fits-block.0 (lt-leb 128 _ c.requires.first)
    c.ascii_count.ensures

pub returns-clause-own : goal.returns-clause-own
returns-clause-own c =
    front_has (leb 128) IsOwn (λ u e. low_own u (omega (arith, leb-false 128 u e))) c.args.block c.ascii_count.result
    c.ascii_count.ensures

pub returns-clause-bytes : goal.returns-clause-bytes
returns-clause-bytes c =
    let block = c.args.block in
    let n = c.ascii_count.result in
    let ascii = front_has (leb 128) (λ u. u < 128) (leb-false 128) block n c.ascii_count.ensures in
    block_after c.args.buffer.now c.low_bytes.result c.args.at (c.args.at + 16 - c.args.at) n (omega arith)
    (omega (arith, c.told-buffer, c.requires.room)) (omega (arith, (returns-clause-some c).1))
    ∙ ap (λ l. take c.args.at c.args.buffer.now ++ l) (ap (take n) c.low_bytes.ensures ∙ ascii_front n block ascii)
