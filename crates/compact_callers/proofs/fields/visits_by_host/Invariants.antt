use Rattle.std.proofs.Common.{◌≡◌, ℕ, List, take, count_by, unwrap_or, bytes_eq}
use Rattle.compact_str.specs.Text.{utf8}
use Rattle.compact_str.specs.SortedKeys.{get_by_text}
use Rattle.compact_callers.proofs.fields.visits_by_host.Given as goal

abbrev pub invariant-loop-visit : goal.invariant-loop-visit
invariant-loop-visit l = (q : List ℕ) → unwrap_or (get_by_text l.counts q) 0
    ≡ count_by (λ visit. bytes_eq q (utf8 visit.host.text)) (take l.visit-index l.visits)
