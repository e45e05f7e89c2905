-- Words with their counts, and their ranking.
use Rattle.std.specs.Prelude.{ℕ, List, [], ◌∷◌, ◌++◌, Bool, true, false, nat_eq, if◌then◌else◌}
use Rattle.std.specs.List.{count_by}
use Rattle.std.specs.List.Sorted.{IsPermutation, IsSortedByKey, IsStableByKey}
use Rattle.std.specs.Ordering.{nat_cmp}
use Rattle.std.proofs.Common.{zero, suc}
use Rattle.compact_uses.specs.declared.tokenizer.Kind.{Kind}
use Rattle.compact_uses.specs.declared.tokenizer.Kind.TheVariants.{Word, Number, Space, Mark}
use Rattle.compact_uses.specs.declared.tokenizer.Token.{Token}
use Rattle.compact_uses.specs.declared.entries.Entry.{Entry}

abbrev pub is_word_kind : Kind → Bool
is_word_kind Word = true
is_word_kind Number = false
is_word_kind Space = false
is_word_kind Mark = false

-- the token is the word with this number
abbrev pub is_word : ℕ → Token → Bool
is_word n token = if nat_eq token.name n then is_word_kind token.kind else false

-- the number of tokens that are this word
abbrev pub word_count : List Token → ℕ → ℕ
word_count tokens n = count_by (is_word n) tokens

-- the word's entry, if it occurs
abbrev pub entry_of : ℕ → ℕ → List Entry
entry_of n count = if nat_eq count 0 then [] else record { count = count; name = n } ∷ []

-- the entries of the first numbers
abbrev pub entries_before : List Token → ℕ → List Entry
entries_before tokens zero = []
entries_before tokens (suc n) = entries_before tokens n ++ entry_of n (word_count tokens n)

-- The same entries, stably sorted by count, the highest first.
pub record IsRanking (entries ranks : List Entry) : Type 0 where
  pub same : IsPermutation entries ranks
  pub falling : IsSortedByKey (λ e. e.count) (λ x y. nat_cmp y x) ranks
  pub ties : IsStableByKey (λ e. e.count) (λ x y. nat_cmp y x) entries ranks
