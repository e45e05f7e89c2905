use Rattle.std.proofs.Common.{arith}
use Rattle.compact_text.proofs.RetainLemmas.{utf8-pushed}
use Rattle.compact_str.proofs.stack_buffer.StackBuffer.try_push.Goals as goal

pub invariant_of-self-2 : goal.invariant_of-self-2
invariant_of-self-2 c =
    let text = utf8-pushed _ c.args.character c.ranges.character.0 c.self.invariant.1 in
    (omega (arith, c.in-Some.ensures.within), rw c.in-Some.ensures.written text)
