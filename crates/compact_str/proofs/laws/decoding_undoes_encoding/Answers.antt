use Rattle.compact_str.proofs.LawLemmas.{decoding_undoes_encoding}
use Rattle.compact_str.proofs.laws.decoding_undoes_encoding.Goals as goal

pub returns : goal.returns
returns c = decoding_undoes_encoding
