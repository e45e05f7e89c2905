use Rattle.std.proofs.Common.{arith}
use Rattle.std.proofs.lemmas.Bool.Decides.{nat_tests}
use Rattle.compact_repr.proofs.PackedEnds.{packed-popped}
use Rattle.compact_repr.proofs.inline.length.pop_ascii.Goals as goal

pub returns-clause-popped : goal.returns-clause-popped
returns-clause-popped c =
    (packed-popped c.args.bytes.now c.from-last.result (omega arith) c.from-last.ensures (omega arith) (omega arith)
    (grind (arith, nat_tests)) c.requires).1

pub returns-clause-packed : goal.returns-clause-packed
returns-clause-packed c =
    (packed-popped c.args.bytes.now c.from-last.result (omega arith) c.from-last.ensures (omega arith) (omega arith)
    (grind (arith, nat_tests)) c.requires).0
