-- For crates that call this one with a range that is open at an end, as `3..`: the start of a text and its end are
-- boundaries. `range_facts` is named at the caller, beside `ForCallers::caller_facts` if a literal is inserted.
use Rattle.std.proofs.Common.{ℕ, List, [], sym, refl, append-nil}
use Rattle.compact_repr.specs.Text.{size}
use Rattle.compact_repr.specs.Cut.{IsBoundary}
use Rattle.compact_text.proofs.CutLemmas.{boundary-within}

pub boundary-start : (t : List ℕ) → IsBoundary t 0
boundary-start t = ([], t, record { parts = refl; position = refl })

pub boundary-end : (t : List ℕ) → IsBoundary t (size t)
boundary-end t = (t, [], record { parts = sym (append-nil t); position = refl })

pub ruleset range_facts = (boundary-start, boundary-end, boundary-within)
