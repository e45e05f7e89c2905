-- Conversions to and from a value.
use Rattle.std.specs.Prelude.{◌≡◌, ◌<◌, ◌≤◌, ℕ, List, length, nat_eq, if◌then◌else◌, Result, IfOk, IfErr, OnErr, IsOk}
use Rattle.std.specs.Prelude.{MatchResult, IsOkAnd, Some, string_bytes, ⊤}
use Rattle.std.specs.String.{string_capacity}
use Rattle.std.specs.declared.borrow.CowStr.{CowStr}
use Rattle.std.specs.declared.borrow.CowStr.TheVariants.{Borrowed, Owned}
use Rattle.compact_repr.specs.Text.{text_of, utf8}
use Rattle.compact_repr.specs.Value.{Placement, PlacedText, placed_text, IsHeap}
use Rattle.compact_repr.specs.Capacity.{Growth, IsPlacedAsNew, inline_placement, heap_placement, from_string_placement}
use Rattle.compact_repr.specs.declared.inline.TheConstants.{INLINE_CAPACITY}
use Rattle.compact_repr.specs.Calls.{new}
use Rattle.compact_str.specs.declared.refused.Refused.{Refused}

-- what `new` ensures of the text with the bytes s, for calls that copy a text as it does
pub record CopiesText {E : Type 0} (g : Growth) (s : List ℕ) (r : Result PlacedText E) : Type 0 where
  pub text : IfOk r (λ v. v.text ≡ text_of s)
  pub bytes : IfOk r (λ v. utf8 v.text ≡ s)
  pub place : IfOk r (IsPlacedAsNew g)
  pub succeeds : length s ≤ INLINE_CAPACITY → IsOk r
  pub allocates : OnErr r (INLINE_CAPACITY < length s)

-- the buffer of a `String` of this capacity, even for a short text; inline if the capacity is 0
abbrev pub string_buffer_placement : ℕ → Placement
string_buffer_placement capacity = if nat_eq capacity 0 then inline_placement else heap_placement capacity

-- a borrowed text is copied, which fails only if it allocates; the buffer of an owned one is reused
abbrev pub ConvertsCow : {Z E : Type 0} → Growth → CowStr Z → Result PlacedText E → Type 0
ConvertsCow g (Borrowed s) r = MatchResult r (λ v. new g (text_of s.now) ≡ Some v) (λ _. INLINE_CAPACITY < length s.now)
ConvertsCow g (Owned s) r = IsOkAnd r (λ v. let t = text_of (string_bytes s) in
    v ≡ placed_text t (from_string_placement t (string_capacity s)))

-- what `into_string` ensures, for calls that convert v as it does
pub record ConvertsTo {T : Type 0} (bytes_of : T → List ℕ) (v : PlacedText) (r : Result T (Refused PlacedText)) : Type
    0 where
  pub bytes : IfOk r (λ x. bytes_of x ≡ utf8 v.text)
  pub text : IfOk r (λ x. text_of (bytes_of x) ≡ v.text)
  pub succeeds : IsHeap v → IsOk r
  pub err : IfErr r (λ e. e.value ≡ v)

-- the conversion never fails: the text is owned, or has at most 24 bytes
abbrev pub IsFreeCow : {Z : Type 0} → CowStr Z → Type 0
IsFreeCow (Borrowed s) = length s.now ≤ INLINE_CAPACITY
IsFreeCow (Owned s) = ⊤
