use Rattle.compact_str.proofs.UnitRuns.{run_utf8}
use Rattle.compact_str.proofs.decode.utf16_block.write_block.Goals as goal

pub returns-then-begins_with_ascii-clause-utf8 : goal.returns-then-begins_with_ascii-clause-utf8
returns-then-begins_with_ascii-clause-utf8 g c =
    let run = c.write_ascii-letters.ensures in
    run_utf8 _ _ _ _ run.bytes c.requires.utf8 run.own

pub returns-then-begins_with_two_byte-clause-utf8 : goal.returns-then-begins_with_two_byte-clause-utf8
returns-then-begins_with_two_byte-clause-utf8 g c =
    let run = c.write_two_byte-pairs.ensures in
    run_utf8 _ _ _ _ run.bytes c.requires.utf8 run.own

pub returns-then-begins_with_three_byte-clause-utf8 : goal.returns-then-begins_with_three_byte-clause-utf8
returns-then-begins_with_three_byte-clause-utf8 g c =
    run_utf8 c.block-block.result _ _ 4 c.write_three_byte.ensures.bytes c.requires.utf8 c.write_three_byte.ensures.own
