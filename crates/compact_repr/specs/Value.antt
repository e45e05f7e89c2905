-- Values: a text with a place and a capacity.
use Rattle.std.specs.Prelude.{◌≡◌, ℕ, ◌≤◌, Bool, true, false, IsTrue, List}
use Rattle.compact_repr.specs.declared.inline.TheConstants.{INLINE_CAPACITY}
use Rattle.compact_text.specs.Text.{size, IsText}

-- in the value itself, in a heap buffer, or static
pub data Place : Type 0 where
  inline : Place
  heap : Place
  static : Place

abbrev pub is_heap_place : Place → Bool
is_heap_place inline = false
is_heap_place heap = true
is_heap_place static = false

abbrev pub is_static_place : Place → Bool
is_static_place inline = false
is_static_place heap = false
is_static_place static = true

pub record Placement : Type 0 where
  pub place : Place
  pub capacity : ℕ

pub record PlacedText : Type 0 where
  pub text : List ℕ
  pub placement : Placement

abbrev pub placed_text : List ℕ → Placement → PlacedText
placed_text t p = record { text = t; placement = p }

-- the place of a value; an owned value may be edited in place
abbrev pub IsInline : PlacedText → Type 0
IsInline v = v.placement.place ≡ inline

abbrev pub IsHeap : PlacedText → Type 0
IsHeap v = IsTrue (is_heap_place v.placement.place)

abbrev pub IsStatic : PlacedText → Type 0
IsStatic v = IsTrue (is_static_place v.placement.place)

abbrev pub IsOwned : PlacedText → Type 0
IsOwned v = is_static_place v.placement.place ≡ false

-- a text of this size is valid in this place, with this capacity
abbrev pub CanHold : Place → ℕ → ℕ → Type 0
CanHold inline capacity bytes = (capacity ≡ INLINE_CAPACITY) × (bytes ≤ INLINE_CAPACITY)
CanHold heap capacity bytes = bytes ≤ capacity
CanHold static capacity bytes = capacity ≡ bytes

-- true of every value: an inline one has capacity `INLINE_CAPACITY`, a static one its size
pub record IsSound (v : PlacedText) : Type 0 where
  pub text : IsText v.text
  pub fits : CanHold v.placement.place v.placement.capacity (size v.text)

-- the view of a heap buffer: its text, and its capacity in bytes
pub record HeapText : Type 0 where
  pub text : List ℕ
  pub capacity : ℕ
