use Rattle.compact_str.proofs.LawLemmas.{removal_undoes_insertion}
use Rattle.compact_str.proofs.laws.removal_undoes_insertion.Goals as goal

pub returns : goal.returns
returns c = removal_undoes_insertion
