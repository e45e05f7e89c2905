use Rattle.compact_str.proofs.LawLemmas.{append_undoes_split}
use Rattle.compact_str.proofs.laws.append_undoes_split.Goals as goal

pub returns : goal.returns
returns c = append_undoes_split
