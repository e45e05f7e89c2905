-- Equality and order of values, by their texts alone.
use Rattle.std.specs.Prelude.{◌≡◌, ℕ, List, Bool, nat_eq}
use Rattle.std.specs.Ordering.{nat_cmp}
use Rattle.std.specs.declared.cmp.Ordering.{Ordering}
use Rattle.std.specs.Cmp.Lexicographic.{pointwise, slice_cmp}
use Rattle.compact_repr.specs.Text.{utf8}
use Rattle.compact_repr.specs.Value.{PlacedText}

abbrev pub text_in : PlacedText → List ℕ
text_in v = v.text

-- the texts have the same characters
abbrev pub same_text : PlacedText → PlacedText → Bool
same_text v w = pointwise nat_eq v.text w.text

-- lexicographic, by character
abbrev pub text_order : List ℕ → List ℕ → Ordering
text_order s t = slice_cmp nat_cmp s t

abbrev pub text_cmp : PlacedText → PlacedText → Ordering
text_cmp v w = text_order v.text w.text

-- texts are ordered by byte as by character
abbrev pub ByteOrderIsTextOrder : Type 0
ByteOrderIsTextOrder = (s t : List ℕ) → slice_cmp nat_cmp (utf8 s) (utf8 t) ≡ text_order s t
