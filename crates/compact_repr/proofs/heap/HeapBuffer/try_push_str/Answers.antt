use Rattle.std.proofs.lemmas.Str.{IsUtf8-append}
use Rattle.compact_repr.proofs.heap.HeapBuffer.try_push_str.Goals as goal

pub invariant_of-self : goal.invariant_of-self
invariant_of-self c = rw c.append_slice.ensures.items (IsUtf8-append _ _ c.self.invariant c.as_bytes.ensures.utf8)
