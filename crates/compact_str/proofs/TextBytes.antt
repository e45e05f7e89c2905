-- For clauses of crates that call this one, and proofs about bytes: texts with equal bytes are equal, and the bytes
-- from a boundary on.
pub use Rattle.compact_repr.proofs.ByteOrder.{utf8-same}
pub use Rattle.compact_text.proofs.CutLemmas.{boundary-bytes, text_of-next}
