use Rattle.compact_text.proofs.CutLemmas.{utf8-replaced}
use Rattle.compact_repr.proofs.HeapTexts.{shown-text}
use Rattle.compact_repr.proofs.heap.HeapBuffer.try_replace_range.Goals as goal

pub invariant_of-self : goal.invariant_of-self
invariant_of-self c = rw c.splice.ensures.items (utf8-replaced _ _ _ _ (shown-text _ c.self.view_is) c.self.invariant
    c.as_bytes.ensures.utf8 c.requires.first c.requires.last)
