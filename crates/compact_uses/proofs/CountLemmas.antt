-- Counts with one more token.
use Rattle.std.proofs.Common.{◌≡◌, ℕ, ◌+◌, ◌<◌, ◌≤◌, List, if◌then◌else◌, length, slice_index_or, take, arith}
use Rattle.std.proofs.lemmas.List.{length-take}
use Rattle.std.proofs.lemmas.List.Sums.{sum_by_more, count_by-le-length}
use Rattle.compact_uses.specs.declared.tokenizer.Token.{Token}
use Rattle.compact_uses.specs.Entries.{is_word, word_count}

pub word_count-bound : (tokens : List Token) (i n : ℕ) → word_count (take i tokens) n ≤ i
word_count-bound tokens i n = omega (arith, count_by-le-length (is_word n) (take i tokens), length-take i tokens)

pub word_count-more : (tokens : List Token) (i n : ℕ) (d : Token) → i < length tokens
    → word_count (take (i + 1) tokens) n ≡ word_count (take i tokens) n
    + (if is_word n (slice_index_or tokens i d) then 1 else 0)
word_count-more tokens i n d within = sum_by_more (λ t. if is_word n t then 1 else 0) tokens i d within

pub ruleset count_facts = (word_count-bound, word_count-more)
