use Rattle.std.proofs.Common.{◌≡◌, ℕ, List, take, sum_by, unwrap_or, bytes_eq, cond}
use Rattle.compact_str.specs.Text.{utf8}
use Rattle.compact_str.specs.SortedKeys.{get_by_text}
use Rattle.compact_callers.proofs.fields.seconds_by_host.Given as goal

abbrev pub invariant-loop-visit : goal.invariant-loop-visit
invariant-loop-visit l = (q : List ℕ) → unwrap_or (get_by_text l.totals q) 0
    ≡ sum_by (λ visit. cond (bytes_eq q (utf8 visit.host.text)) visit.seconds 0) (take l.visit-index l.visits)
