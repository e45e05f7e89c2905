use Rattle.compact_codec.proofs.InvalidSequenceLemmas.{error_is}
use Rattle.compact_codec.proofs.utf8.bytes_have_one_error.Goals as goal

pub returns : goal.returns
returns c = error_is
