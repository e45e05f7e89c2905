use Rattle.compact_text.proofs.RetainLemmas.{utf8-pushed}
use Rattle.compact_repr.proofs.heap.HeapBuffer.try_push.Goals as goal

pub invariant_of-self-2 : goal.invariant_of-self-2
invariant_of-self-2 c = rw (c.try_append_char.ensures.items c.if-not-try_append_char.false)
    (utf8-pushed _ c.args.character c.ranges.character.0 c.self.invariant)
