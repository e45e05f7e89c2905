use Rattle.compact_text.proofs.CutLemmas.{utf8-take}
use Rattle.compact_repr.proofs.HeapTexts.{shown-text}
use Rattle.compact_repr.proofs.heap.HeapBuffer.truncate.Goals as goal

pub invariant_of-self : goal.invariant_of-self
invariant_of-self c = rw c.truncate.ensures.items (utf8-take _ _ (shown-text _ c.self.view_is) c.self.invariant
    c.requires)
