-- Names by first occurrence, and their numbers.
use Rattle.std.specs.Prelude.{◌≡◌, ◌<◌, ◌+◌, ◌⊎◌, ℕ, List, [], ◌∷◌, ◌++◌, Bool, false, not, filter, length, map, nat_eq}
use Rattle.std.specs.Prelude.{slice_get, vec_len, vec_capacity, Some}
use Rattle.std.specs.Borrow.{Bor}
use Rattle.std.specs.Global.{Vec}
use Rattle.std.specs.List.{list_any, AllZip}
use Rattle.std.specs.Cmp.Lexicographic.{pointwise}
use Rattle.compact_str.specs.Text.{text_of}
use Rattle.compact_edit.specs.declared.intern.TheConstants.{MAX_COUNT}
use Rattle.compact_edit.specs.declared.intern.InternError.{InternError}
use Rattle.compact_edit.specs.declared.intern.InternError.TheVariants.{Reserve, Full}

abbrev pub contains : List (List ℕ) → List ℕ → Bool
contains ts t = list_any (pointwise nat_eq t) ts

abbrev pub texts_without : List ℕ → List (List ℕ) → List (List ℕ)
texts_without t ts = filter (λ u. not (pointwise nat_eq t u)) ts

-- the distinct texts, by first occurrence
abbrev pub distinct_texts : List (List ℕ) → List (List ℕ)
distinct_texts [] = []
distinct_texts (t ∷ ts) = t ∷ texts_without t (distinct_texts ts)

-- the number of each text is its index among the names
abbrev pub AreNumbersOf : List (List ℕ) → List (List ℕ) → List ℕ → Type 0
AreNumbersOf names texts numbers = AllZip (λ t n. slice_get names n ≡ Some t) texts numbers

-- the numbers of the texts are appended
abbrev pub AppendsNumbersOf : List (List ℕ) → List (List ℕ) → List ℕ → List ℕ → Type 0
AppendsNumbersOf names texts listed now_listed =
    (numbers : List ℕ) × (now_listed ≡ listed ++ numbers) × AreNumbersOf names texts numbers

-- all texts are interned: the names afterwards, and the numbers, after those that were listed
pub record InternsAll (before texts : List (List ℕ)) (listed : List ℕ) (after : List (List ℕ))
    (now_listed : List ℕ) : Type 0 where
  pub names : after ≡ distinct_texts (before ++ texts)
  pub numbers : List ℕ
  pub appended : now_listed ≡ listed ++ numbers
  pub places : AreNumbersOf after texts numbers

-- the error of a new text: allocation failed with a number left, or no number is left
abbrev pub IsRefusal : List (List ℕ) → List ℕ → InternError → Type 0
IsRefusal names t (Reserve error) = (contains names t ≡ false) × (length names < MAX_COUNT)
IsRefusal names t Full = (length names ≡ MAX_COUNT) × (contains names t ≡ false)

-- the texts before the first that fails are interned
pub record InternsUpTo (before texts : List (List ℕ)) (listed : List ℕ) (after : List (List ℕ)) (now_listed : List ℕ)
    (error : InternError) : Type 0 where
  pub taken_texts : List (List ℕ)
  pub refused_text : List ℕ
  pub rest : List (List ℕ)
  pub parts : texts ≡ taken_texts ++ refused_text ∷ rest
  pub takes : InternsAll before taken_texts listed after now_listed
  pub cause : IsRefusal after refused_text error

-- no text is interned: reserving room for the numbers failed, and the list is unchanged
pub record HasNoRoomForNumbers (before texts : List (List ℕ)) (listed : Vec ℕ) (after : List (List ℕ))
    (now_listed : Vec ℕ) (error : InternError) : Type 0 where
  pub refused : error ≡ Reserve (record {})
  pub names : after ≡ before
  pub numbers : now_listed.items ≡ listed.items
  pub room : vec_capacity listed < vec_len listed + length texts

-- not all texts are interned: there is no room for their numbers, or one fails
abbrev pub InternsSome : List (List ℕ) → List (List ℕ) → Vec ℕ → List (List ℕ) → Vec ℕ → InternError → Type 0
InternsSome before texts listed after now_listed error =
    HasNoRoomForNumbers before texts listed after now_listed error
    ⊎ InternsUpTo before texts listed.items after now_listed.items error

abbrev pub texts_of : List (Bor (List ℕ)) → List (List ℕ)
texts_of row = map (λ t. text_of t.now) row
