use Rattle.std.proofs.lemmas.Str.{IsUtf8-string_bytes}
use Rattle.compact_repr.proofs.heap.HeapBuffer.from_string.Goals as goal

pub invariant_of-result : goal.invariant_of-result
invariant_of-result c = rw c.into_bytes-bytes.ensures.value (IsUtf8-string_bytes c.args.text)
