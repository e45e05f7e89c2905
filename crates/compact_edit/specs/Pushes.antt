-- The bytes that a run moves, and repeated pushes.
use Rattle.std.specs.Prelude.{◌≡◌, ℕ, ◌+◌, List, [], ◌∷◌, Bool, not, ◌&&◌, map, nat_eq, if◌then◌else◌}
use Rattle.std.specs.Borrow.{Bor}
use Rattle.compact_str.specs.Text.{size}
use Rattle.compact_str.specs.Value.{Place, inline, heap, static, is_heap_place, is_static_place, Placement, PlacedText}
use Rattle.compact_str.specs.Value.{placed_text}
use Rattle.compact_str.specs.Capacity.{Growth, inline_placement}
use Rattle.compact_edit.specs.declared.edit.Edit.{Edit}
use Rattle.compact_edit.specs.declared.edit.Edit.TheVariants.{PushStr}
use Rattle.compact_edit.specs.declared.edit.Reply.{Reply}
use Rattle.compact_edit.specs.declared.edit.Reply.TheVariants.{Done, Char, Text, BadPosition, Refused}
use Rattle.compact_edit.specs.Runs.{Run}

abbrev pub same_place : Place → Place → Bool
same_place inline q = not (is_heap_place q) && not (is_static_place q)
same_place heap q = is_heap_place q
same_place static q = is_static_place q

abbrev pub same_placement : Placement → Placement → Bool
same_placement p q = same_place p.place q.place && nat_eq p.capacity q.capacity

-- the bytes moved by a step from v to w: the text of v, if the place or the capacity changes
abbrev pub bytes_moved_by_step : PlacedText → PlacedText → ℕ
bytes_moved_by_step v w = if same_placement v.placement w.placement then 0 else size v.text

-- their sum over a run
abbrev pub bytes_moved : {P : Type 0} (g : Growth) (v : PlacedText) (edits : List (Edit P)) (replies : List (Reply P))
    (w : PlacedText) → Run g v edits replies w → ℕ
bytes_moved g v [] [] w run = 0
bytes_moved g v (edit ∷ edits) (reply ∷ replies) w run = bytes_moved_by_step v run.0
    + bytes_moved g run.0 edits replies w run.2
bytes_moved g v [] (reply ∷ replies) w run = 0
bytes_moved g v (edit ∷ edits) [] w run = 0

abbrev pub failure_count : {P : Type 0} → List (Reply P) → ℕ
failure_count [] = 0
failure_count (Done ∷ replies) = failure_count replies
failure_count (Char c ∷ replies) = failure_count replies
failure_count (Text t ∷ replies) = failure_count replies
failure_count (BadPosition ∷ replies) = failure_count replies
failure_count (Refused e ∷ replies) = 1 + failure_count replies

-- the texts, pushed in order onto the empty value, leave w, with that many bytes moved and that many pushes failed
abbrev pub PushesTo : (P : Type 0) → Growth → List (Bor (List ℕ)) → PlacedText → ℕ → ℕ → Type 0
PushesTo P g texts w bytes count =
    let edits : List (Edit P) = map PushStr texts in
    let empty = placed_text [] inline_placement in
    (replies : List (Reply P)) × (run : Run g empty edits replies w)
    × (bytes ≡ bytes_moved g empty edits replies w run) × (count ≡ failure_count replies)
