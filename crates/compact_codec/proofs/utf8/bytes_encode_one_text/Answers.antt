use Rattle.compact_codec.proofs.Utf8TextLemmas.{encodes_one_text}
use Rattle.compact_codec.proofs.utf8.bytes_encode_one_text.Goals as goal

pub returns : goal.returns
returns c = encodes_one_text
