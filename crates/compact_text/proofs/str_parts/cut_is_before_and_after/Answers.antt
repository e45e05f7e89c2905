use Rattle.compact_text.proofs.CutLemmas.{cut_is_before_and_after}
use Rattle.compact_text.proofs.str_parts.cut_is_before_and_after.Goals as goal

pub returns : goal.returns
returns c = cut_is_before_and_after
