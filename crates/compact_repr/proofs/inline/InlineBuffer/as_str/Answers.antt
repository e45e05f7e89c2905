use Rattle.compact_repr.proofs.PackedCuts.{utf8-seen}
use Rattle.compact_repr.proofs.inline.InlineBuffer.as_str.Goals as goal

pub from_utf8_unchecked-requires : goal.from_utf8_unchecked-requires
from_utf8_unchecked-requires c = rw c.decode_len.ensures (utf8-seen _ c.self.invariant)
