use Rattle.compact_str.proofs.KeyFacts.{increasing-from_sorted}
use Rattle.compact_callers.proofs.sorted.distinct_names.Goals as goal

pub returns : goal.returns
returns c = increasing-from_sorted _ _ c.dedup.ensures.filtered c.in_ok-sort.ensures.sorted
