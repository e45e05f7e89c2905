use Rattle.std.proofs.Common.{◌≡◌, ℕ, List, take, count_by, unwrap_or, bytes_eq}
use Rattle.compact_str.specs.HashedKeys.{get_by_text}
use Rattle.compact_callers.proofs.count.hashed_word_counts.Given as goal

abbrev pub invariant-loop-word : goal.invariant-loop-word
invariant-loop-word l = (q : List ℕ) → unwrap_or (get_by_text l.counts q) 0
    ≡ count_by (λ w. bytes_eq q w.now) (take l.word-index l.words)
