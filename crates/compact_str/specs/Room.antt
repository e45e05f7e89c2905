-- Room for a text, and values placed by their size.
use Rattle.std.specs.Prelude.{ℕ, ◌+◌, ◌≤◌, max, if◌then◌else◌, ◌≡◌, ◌<◌}
use Rattle.compact_repr.specs.Text.{size}
use Rattle.compact_repr.specs.Value.{PlacedText, is_static_place, heap}
use Rattle.compact_repr.specs.declared.inline.TheConstants.{INLINE_CAPACITY}
use Rattle.compact_repr.specs.Capacity.{inline_placement}

-- the capacity that v owns
abbrev pub own_capacity : PlacedText → ℕ
own_capacity v = if is_static_place v.placement.place then 0 else v.placement.capacity

-- the bytes that fit v without allocating: 24, or its own capacity if that is more
abbrev pub infallible_capacity : PlacedText → ℕ
infallible_capacity v = max INLINE_CAPACITY (own_capacity v)

-- n more bytes fit v without allocating
abbrev pub HasRoomFor : PlacedText → ℕ → Type 0
HasRoomFor v n = size v.text + n ≤ infallible_capacity v

-- v is inline up to 24 bytes, else on the heap with any capacity that holds the text
pub record IsPlacedBySize (v : PlacedText) : Type 0 where
  pub short : size v.text ≤ INLINE_CAPACITY → v.placement ≡ inline_placement
  pub long : INLINE_CAPACITY < size v.text → (v.placement.place ≡ heap) × (size v.text ≤ v.placement.capacity)
