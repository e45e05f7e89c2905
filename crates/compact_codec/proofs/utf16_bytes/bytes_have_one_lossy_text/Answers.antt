use Rattle.compact_codec.proofs.Utf16BytesLemmas.{utf16_bytes_lossy_text_is}
use Rattle.compact_codec.proofs.utf16_bytes.bytes_have_one_lossy_text.Goals as goal

pub returns : goal.returns
returns c = utf16_bytes_lossy_text_is
