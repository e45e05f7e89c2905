use Rattle.std.proofs.Common.{◌≡◌, ℕ, List, take, slice_get, Some}
use Rattle.compact_edit.specs.Names.{AreNumbersOf, texts_of}
use Rattle.compact_callers.proofs.numbered.numbers_in_turn.Given as goal

pub record NumbersFirst (names old : List (List ℕ)) (texts : List (List ℕ)) (numbers : List ℕ) : Type 0 where
  pub listed : AreNumbersOf names texts numbers
  pub kept : (n : ℕ) (name : List ℕ) → slice_get old n ≡ Some name → slice_get names n ≡ Some name

abbrev pub invariant-loop-word : goal.invariant-loop-word
invariant-loop-word l = NumbersFirst l.names l.fn.names (texts_of (take l.word-index l.words)) l.numbers.items
