use Rattle.compact_repr.proofs.PackedTexts.{one_text}
use Rattle.compact_str.proofs.laws.packed_bytes_stand_for_one_text.Goals as goal

pub returns : goal.returns
returns c = one_text
