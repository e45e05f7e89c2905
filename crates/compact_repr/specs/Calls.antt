-- The results of calls as functions of text and placement: None if the call must fail.
use Rattle.std.specs.Prelude.{◌≡◌, ◌⊎◌, ℕ, ◌-◌, Bool, IsTrue, List, [], ◌∷◌, ◌++◌, Option, Some, None, option_map}
use Rattle.std.specs.Prelude.{nat_le, if◌then◌else◌}
use Rattle.compact_text.specs.Text.{size, ascii_lowercase, ascii_uppercase}
use Rattle.compact_text.specs.Cut.{text_before, replaced_text}
use Rattle.compact_repr.specs.Value.{PlacedText, placed_text, is_static_place}
use Rattle.compact_repr.specs.Capacity.{Growth, Need, owned, room, room_to_append, room_to_replace, placement_for}
use Rattle.compact_repr.specs.Capacity.{allocates_for, inline_placement, new_placement, with_capacity_placement}
use Rattle.compact_repr.specs.Capacity.{kept_placement, clone_placement, shrink_to_placement, shrink_to_allocates}

abbrev pub new : Growth → List ℕ → Option PlacedText
new g t = option_map (placed_text t) (new_placement g t)

-- v with the text t, once it has what is needed
abbrev pub edited : Growth → PlacedText → Need → List ℕ → Option PlacedText
edited g v need t = option_map (placed_text t) (placement_for g v need)

-- v with s appended; an empty s changes nothing, not even a static place
abbrev pub push_str : Growth → PlacedText → List ℕ → Option PlacedText
push_str g v s = edited g v (room_to_append (size s)) (v.text ++ s)

abbrev pub push_str_allocates : PlacedText → List ℕ → Bool
push_str_allocates v s = allocates_for v (room_to_append (size s))

-- v without text, in its place
abbrev pub clear : PlacedText → PlacedText
clear v = placed_text [] (kept_placement v [])

-- v with room for n more bytes
abbrev pub reserve : Growth → PlacedText → ℕ → Option PlacedText
reserve g v n = edited g v (room n) v.text

abbrev pub with_capacity : Growth → ℕ → Option PlacedText
with_capacity g c = option_map (placed_text []) (with_capacity_placement g c)

abbrev pub make_owned : Growth → PlacedText → Option PlacedText
make_owned g v = edited g v owned v.text

abbrev pub clone : Growth → PlacedText → Option PlacedText
clone g v = option_map (placed_text v.text) (clone_placement g v)

-- v shrunk to n, or unchanged if the new buffer cannot be allocated
abbrev pub Shrinks : Growth → PlacedText → ℕ → PlacedText → Type 0
Shrinks g v n w = (w ≡ placed_text v.text (shrink_to_placement g v n)) ⊎ ((w ≡ v) × IsTrue (shrink_to_allocates g v n))

-- v truncated to p bytes, in its place; unchanged if it has no more
abbrev pub truncate : PlacedText → ℕ → PlacedText
truncate v p =
    let t = if nat_le (size v.text) p then v.text else text_before v.text p in
    placed_text t (kept_placement v t)

-- v with s inserted, once there is room for s, even if s is empty
abbrev pub insert_str : Growth → PlacedText → ℕ → List ℕ → Option PlacedText
insert_str g v index s = edited g v (room (size s)) (replaced_text v.text index index s)

-- v with a range replaced with s: owned if s is no longer than the range, else with room for the difference
abbrev pub replace_range : Growth → PlacedText → ℕ → ℕ → List ℕ → Option PlacedText
replace_range g v start end s = edited g v (room_to_replace (end - start) (size s)) (replaced_text v.text start end s)

abbrev pub replace_range_allocates : PlacedText → ℕ → ℕ → List ℕ → Bool
replace_range_allocates v start end s = allocates_for v (room_to_replace (end - start) (size s))

-- v made owned, with A to Z made lowercase, or a to z uppercase
abbrev pub make_ascii_lowercase : Growth → PlacedText → Option PlacedText
make_ascii_lowercase g v = edited g v owned (ascii_lowercase v.text)

abbrev pub make_ascii_uppercase : Growth → PlacedText → Option PlacedText
make_ascii_uppercase g v = edited g v owned (ascii_uppercase v.text)

-- v made owned, with only the characters t of its text
abbrev pub retain : Growth → PlacedText → List ℕ → Option PlacedText
retain g v t = edited g v owned t

-- v without text: inline if static, else in its place
abbrev pub zeroize : PlacedText → PlacedText
zeroize v = placed_text [] (if is_static_place v.placement.place then inline_placement else v.placement)

-- v without its last character, in its place
abbrev pub PopsChar : PlacedText → Option ℕ → PlacedText → Type 0
PopsChar v None w = (v.text ≡ []) × (w ≡ v)
PopsChar v (Some c) w = (front : List ℕ) × (v.text ≡ front ++ c ∷ []) × (w ≡ placed_text front (kept_placement v front))
