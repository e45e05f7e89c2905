-- Worked examples of names and their numbers.
use Rattle.std.proofs.Common.{◌≡◌, ℕ, ◌-◌, ◌^◌, List, [], ◌∷◌, None, slice_get, refl}
use Rattle.compact_edit.specs.declared.intern.TheConstants.{MAX_COUNT}
use Rattle.compact_edit.specs.Names.{distinct_texts, AreNumbersOf, InternsAll}

abbrev a : List ℕ
a = 97 ∷ []

abbrev b : List ℕ
b = 98 ∷ []

-- a number has 32 bits
most-names : MAX_COUNT ≡ 2 ^ 32 - 1
most-names = refl

-- each text is a name once, at its first occurrence; names are not sorted
names-once : distinct_texts (a ∷ b ∷ a ∷ [] ∷ []) ≡ a ∷ b ∷ [] ∷ []
names-once = refl

names-unsorted : distinct_texts (b ∷ a ∷ b ∷ []) ≡ b ∷ a ∷ []
names-unsorted = refl

no-names : distinct_texts [] ≡ []
no-names = refl

-- a, b, a and the empty text have the numbers 0, 1, 0 and 2
numbers-by_place : AreNumbersOf (a ∷ b ∷ [] ∷ []) (a ∷ b ∷ a ∷ [] ∷ []) (0 ∷ 1 ∷ 0 ∷ 2 ∷ [])
numbers-by_place = (refl, (refl, (refl, (refl, tt))))

past-the-last : slice_get (a ∷ b ∷ [] ∷ []) 3 ≡ None
past-the-last = refl

-- with the name b and the number 7 listed, a and b get 1 and 0
taken-appended : InternsAll (b ∷ []) (a ∷ b ∷ []) (7 ∷ []) (b ∷ a ∷ []) (7 ∷ 1 ∷ 0 ∷ [])
taken-appended = record { names = refl; numbers = 1 ∷ 0 ∷ []; appended = refl; places = (refl, (refl, tt)) }
