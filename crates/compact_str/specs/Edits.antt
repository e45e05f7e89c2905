-- Results of edits by byte position, of clones and of repetition.
use Rattle.std.specs.Prelude.{IsTrue, ◌≡◌, ℕ, ◌*◌, Bool, not, ◌&&◌, List, [], ◌∷◌, ◌++◌, Option, Some, option_map}
use Rattle.std.specs.Prelude.{nat_eq, zero, suc, if◌then◌else◌}
use Rattle.compact_repr.specs.Text.{size}
use Rattle.compact_repr.specs.Cut.{text_before, text_after}
use Rattle.compact_repr.specs.Value.{Placement, PlacedText, placed_text, is_static_place, is_heap_place}
use Rattle.compact_repr.specs.Calls.{clear}
use Rattle.compact_repr.specs.Capacity.{Growth, new_placement, with_capacity_placement, with_capacity_allocates}
use Rattle.compact_repr.specs.Capacity.{kept_placement, owned_placement, const_new_placement, clone_placement}
use Rattle.compact_repr.specs.Capacity.{clone_allocates, room_to_append, placement_for, allocates_for}

-- w is v made owned, without the character c at a position
abbrev pub Removes : Growth → PlacedText → ℕ → ℕ → PlacedText → Type 0
Removes g v index c w =
    (rest : List ℕ) × (text_after v.text index ≡ c ∷ rest)
    × (option_map (placed_text (text_before v.text index ++ rest)) (owned_placement g v) ≡ Some w)

-- the placement of a tail that is split off: static if v is
abbrev pub tail_placement : Growth → PlacedText → List ℕ → Option Placement
tail_placement g v tail = if is_static_place v.placement.place then Some (const_new_placement tail) else new_placement
    g tail

-- the tail that is split off v is static if v is and it is long, else placed as new
abbrev pub IsPlacedAsTail : Growth → PlacedText → PlacedText → Type 0
IsPlacedAsTail g v tail = tail_placement g v tail.text ≡ Some tail.placement

-- the tail that is split off at a position
abbrev pub split_tail : Growth → PlacedText → ℕ → Option PlacedText
split_tail g v index = let tail = text_after v.text index in option_map (placed_text tail) (tail_placement g v tail)

-- v is split at a position: the tail is returned, and w is the part before it, in the place of v
pub record SplitsOff (g : Growth) (v : PlacedText) (index : ℕ) (tail w : PlacedText) : Type 0 where
  pub leaves : split_tail g v index ≡ Some tail
  pub stays : let front = text_before v.text index in w ≡ placed_text front (kept_placement v front)

abbrev pub split_allocates : PlacedText → ℕ → Bool
split_allocates v index = not (is_static_place v.placement.place) && with_capacity_allocates
    (size (text_after v.text index))

abbrev pub SplitAllocates : PlacedText → ℕ → Type 0
SplitAllocates v index = IsTrue (split_allocates v index)

-- t, n times
abbrev pub repeated_text : ℕ → List ℕ → List ℕ
repeated_text zero t = []
repeated_text (suc n) t = t ++ repeated_text n t

-- repeating v n times clones it: once, and not empty
abbrev pub repeats_by_copy : PlacedText → ℕ → Bool
repeats_by_copy v n = nat_eq n 1 && not (nat_eq (size v.text) 0)

-- its placement: a clone's, or that of new capacity, which is inline if the result is empty
abbrev pub repeat_placement : Growth → PlacedText → ℕ → Option Placement
repeat_placement g v n = if repeats_by_copy v n then clone_placement g v else with_capacity_placement g
    (size v.text * n)

abbrev pub repeat : Growth → PlacedText → ℕ → Option PlacedText
repeat g v n = option_map (placed_text (repeated_text n v.text)) (repeat_placement g v n)

-- w is placed as v repeated n times
abbrev pub IsPlacedAsRepeated : Growth → PlacedText → ℕ → PlacedText → Type 0
IsPlacedAsRepeated g v n w = repeat_placement g v n ≡ Some w.placement

abbrev pub repeat_allocates : PlacedText → ℕ → Bool
repeat_allocates v n = if repeats_by_copy v n then clone_allocates v else with_capacity_allocates (size v.text * n)

abbrev pub RepeatAllocates : PlacedText → ℕ → Type 0
RepeatAllocates v n = IsTrue (repeat_allocates v n)

-- the placement of v once w is cloned into it: an inline or static w brings its own, and a heap w has its text appended
-- to v, once that is cleared
abbrev pub clone_from_placement : Growth → PlacedText → PlacedText → Option Placement
clone_from_placement g v w =
    if is_heap_place w.placement.place then placement_for g (clear v) (room_to_append (size w.text)) else Some
    w.placement

abbrev pub clone_from : Growth → PlacedText → PlacedText → Option PlacedText
clone_from g v w = option_map (placed_text w.text) (clone_from_placement g v w)

-- u is placed as v is once w is cloned into it
abbrev pub IsPlacedAsCloned : Growth → PlacedText → PlacedText → PlacedText → Type 0
IsPlacedAsCloned g v w u = clone_from_placement g v w ≡ Some u.placement

-- that allocates a heap buffer; if not, it never fails
abbrev pub clone_from_allocates : PlacedText → PlacedText → Bool
clone_from_allocates v w = is_heap_place w.placement.place && allocates_for (clear v) (room_to_append (size w.text))

abbrev pub CloneFromAllocates : PlacedText → PlacedText → Type 0
CloneFromAllocates v w = IsTrue (clone_from_allocates v w)
