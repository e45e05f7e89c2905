-- Place and capacity by text and growth policy, and the calls that allocate.
use Rattle.std.specs.Prelude.{IsTrue, ◌≡◌, ℕ, ◌+◌, ◌-◌, ◌*◌, ◌/◌, ◌<◌, ◌≤◌, Bool, false, ◌&&◌, not, List, Option, Some}
use Rattle.std.specs.Prelude.{None, max, min, nat_eq, nat_le, nat_lt, if◌then◌else◌}
use Rattle.compact_repr.specs.declared.inline.TheConstants.{INLINE_CAPACITY}
use Rattle.compact_repr.specs.declared.growth.TheConstants.{MAX_CAPACITY}
use Rattle.compact_text.specs.Text.{size}
use Rattle.compact_repr.specs.Value.{inline, heap, static, is_heap_place, is_static_place, Placement, PlacedText}

-- the least capacity, and the growth factor
pub record Growth : Type 0 where
  pub least : ℕ
  pub numerator : ℕ
  pub denominator : ℕ

-- the law of each policy
pub record IsLawful (g : Growth) : Type 0 where
  pub above_inline : INLINE_CAPACITY < g.least
  pub below_limit : g.least ≤ MAX_CAPACITY
  pub divides : 1 ≤ g.denominator
  pub grows : g.denominator < g.numerator
  pub small : g.numerator + g.denominator ≤ 255

-- that of `CompactString`: at least 32 bytes, and a factor of 1.5
abbrev pub standard_growth : Growth
standard_growth = record { least = 32; numerator = 3; denominator = 2 }

abbrev pub inline_placement : Placement
inline_placement = record { place = inline; capacity = INLINE_CAPACITY }

abbrev pub heap_placement : ℕ → Placement
heap_placement c = record { place = heap; capacity = c }

-- static: the capacity is the length
abbrev pub static_placement : List ℕ → Placement
static_placement t = record { place = static; capacity = size t }

-- a heap buffer of c bytes; None if that exceeds the limit
abbrev pub checked_heap_placement : ℕ → Option Placement
checked_heap_placement c = if nat_le c MAX_CAPACITY then Some (heap_placement c) else None

-- new room for c bytes: inline if they fit, else on the heap
abbrev pub with_capacity_placement : Growth → ℕ → Option Placement
with_capacity_placement g c = if nat_le c INLINE_CAPACITY then Some inline_placement else checked_heap_placement (max g.least c)

-- new room for t
abbrev pub new_placement : Growth → List ℕ → Option Placement
new_placement g t = with_capacity_placement g (size t)

-- v's placement with a shorter text t: the same place, and the same capacity if owned
abbrev pub kept_placement : PlacedText → List ℕ → Placement
kept_placement v t =
    record {
      place = v.placement.place;
      capacity = if is_static_place v.placement.place then size t else v.placement.capacity;
    }

-- v's placement once owned: a static text is copied
abbrev pub owned_placement : Growth → PlacedText → Option Placement
owned_placement g v = if is_static_place v.placement.place then new_placement g v.text else Some v.placement

-- v is owned and has room for n more bytes
abbrev pub fits_in_place : PlacedText → ℕ → Bool
fits_in_place v n = not (is_static_place v.placement.place) && nat_le (size v.text + n) v.placement.capacity

-- the heap capacity for n more bytes: the greatest of what is needed, the grown text and the least
abbrev pub grown_capacity : Growth → PlacedText → ℕ → ℕ
grown_capacity g v n = max g.least (max (size v.text + n) (g.numerator * size v.text / g.denominator))

-- v's placement with room for n more bytes; None if that must fail
abbrev pub reserve_placement : Growth → PlacedText → ℕ → Option Placement
reserve_placement g v n =
    if fits_in_place v n then Some v.placement
    else if nat_le (size v.text + n) INLINE_CAPACITY then Some inline_placement
    else checked_heap_placement (grown_capacity g v n)

-- `with_capacity_placement`, `owned_placement` and `reserve_placement` allocate a heap buffer; if not, they never fail
abbrev pub with_capacity_allocates : ℕ → Bool
with_capacity_allocates c = not (nat_le c INLINE_CAPACITY)

abbrev pub make_owned_allocates : PlacedText → Bool
make_owned_allocates v = is_static_place v.placement.place && with_capacity_allocates (size v.text)

abbrev pub reserve_allocates : PlacedText → ℕ → Bool
reserve_allocates v n = not (fits_in_place v n) && with_capacity_allocates (size v.text + n)

-- what an edit needs of the buffer: nothing, that the value is owned, or that it is owned with room for n more bytes
pub data Need : Type 0 where
  nothing : Need
  owned : Need
  room : ℕ → Need

-- to append n bytes; none need nothing
abbrev pub room_to_append : ℕ → Need
room_to_append n = if nat_eq n 0 then nothing else room n

-- to replace n bytes with m
abbrev pub room_to_replace : ℕ → ℕ → Need
room_to_replace n m = if nat_le m n then owned else room (m - n)

-- v's placement once it has what is needed; None if that must fail
abbrev pub placement_for : Growth → PlacedText → Need → Option Placement
placement_for g v nothing = Some v.placement
placement_for g v owned = owned_placement g v
placement_for g v (room n) = reserve_placement g v n

-- that allocates a heap buffer; if not, it never fails
abbrev pub allocates_for : PlacedText → Need → Bool
allocates_for v nothing = false
allocates_for v owned = make_owned_allocates v
allocates_for v (room n) = reserve_allocates v n

-- w is placed as v is once it has what is needed
abbrev pub PlacedFor : Growth → PlacedText → PlacedText → Need → Type 0
PlacedFor g v w need = placement_for g v need ≡ Some w.placement

abbrev pub AllocatesFor : PlacedText → Need → Type 0
AllocatesFor v need = IsTrue (allocates_for v need)

-- v is placed as `new` places its text, or `with_capacity` an empty one
abbrev pub IsPlacedAsNew : Growth → PlacedText → Type 0
IsPlacedAsNew g v = new_placement g v.text ≡ Some v.placement

abbrev pub HasNewCapacity : Growth → ℕ → PlacedText → Type 0
HasNewCapacity g c v = with_capacity_placement g c ≡ Some v.placement

-- w has the place of v, and its capacity unless static
abbrev pub KeepsPlace : PlacedText → PlacedText → Type 0
KeepsPlace v w = w.placement ≡ kept_placement v w.text

-- a string literal: inline if it fits, else by reference
abbrev pub const_new_placement : List ℕ → Placement
const_new_placement t = if nat_le (size t) INLINE_CAPACITY then inline_placement else static_placement t

-- a `String` of this capacity: inline if it fits, else in its own buffer
abbrev pub from_string_placement : List ℕ → ℕ → Placement
from_string_placement t capacity = if nat_le (size t) INLINE_CAPACITY then inline_placement else heap_placement capacity

-- the placement of a clone: as by `new` if on the heap, else unchanged
abbrev pub clone_placement : Growth → PlacedText → Option Placement
clone_placement g v = if is_heap_place v.placement.place then new_placement g v.text else Some v.placement

abbrev pub clone_allocates : PlacedText → Bool
clone_allocates v = is_heap_place v.placement.place && with_capacity_allocates (size v.text)

abbrev pub CloneAllocates : PlacedText → Type 0
CloneAllocates v = IsTrue (clone_allocates v)

-- the capacity that a shrink of v to n aims at
abbrev pub shrink_to_capacity : PlacedText → ℕ → ℕ
shrink_to_capacity v n = max (size v.text) n

-- a shrink to n allocates: the goal does not fit inline, and its capacity is below the present one
abbrev pub shrink_to_allocates : Growth → PlacedText → ℕ → Bool
shrink_to_allocates g v n =
    is_heap_place v.placement.place && with_capacity_allocates (shrink_to_capacity v n) && nat_lt
    (max g.least (shrink_to_capacity v n)) v.placement.capacity

-- v's placement shrunk to n if allocation succeeds: only a heap buffer changes, and no capacity grows
abbrev pub shrink_to_placement : Growth → PlacedText → ℕ → Placement
shrink_to_placement g v n =
    if not (is_heap_place v.placement.place) then v.placement
    else if nat_le (shrink_to_capacity v n) INLINE_CAPACITY then inline_placement
    else heap_placement (min (max g.least (shrink_to_capacity v n)) v.placement.capacity)
