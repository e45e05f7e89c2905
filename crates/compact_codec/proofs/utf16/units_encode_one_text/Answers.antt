use Rattle.compact_codec.proofs.Utf16TextLemmas.{units_encode_one_text}
use Rattle.compact_codec.proofs.utf16.units_encode_one_text.Goals as goal

pub returns : goal.returns
returns c = units_encode_one_text
