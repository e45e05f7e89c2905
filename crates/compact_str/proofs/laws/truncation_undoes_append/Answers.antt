use Rattle.compact_str.proofs.LawLemmas.{truncation_undoes_append}
use Rattle.compact_str.proofs.laws.truncation_undoes_append.Goals as goal

pub returns : goal.returns
returns c = truncation_undoes_append
