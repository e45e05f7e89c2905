-- The effect of a command on the program's value.
use Rattle.std.specs.Prelude.{◌≡◌, List, Bool, true, false, not, [], ◌||◌, replicate, length, Some, IsTrue, Result, Ok}
use Rattle.std.specs.Prelude.{Err}
use Rattle.std.specs.Borrow.{Bor}
use Rattle.compact_str.specs.Text.{text_of}
use Rattle.compact_str.specs.Value.{PlacedText, placed_text}
use Rattle.compact_str.specs.Capacity.{standard_growth, inline_placement, static_placement, with_capacity_allocates}
use Rattle.compact_str.specs.Calls.{new, with_capacity}
use Rattle.compact_str.specs.declared.Standard.{Standard}
use Rattle.compact_str.specs.declared.ReserveError.{ReserveError}
use Rattle.compact_edit.specs.declared.edit.Edit.TheVariants as edits
use Rattle.compact_edit.specs.declared.edit.Reply.{Reply}
use Rattle.compact_edit.specs.declared.edit.Reply.TheVariants.{Done}
use Rattle.compact_edit.specs.Steps.{Step}
use Rattle.compact_lines.specs.declared.command.Command.{Command}
use Rattle.compact_lines.specs.declared.command.Command.TheVariants.{New, Static, WithCapacity, CloneFrom, Retain, Edit}

-- the value, and whether there is room for the reply to an edit
pub record State : Type 0 where
  pub value : PlacedText
  pub has_room : Bool

-- the empty value, inline, and no room
abbrev pub first_state : State
first_state = record { value = placed_text [] inline_placement; has_room = false }

-- from v, the command may return this reply and lead to w
abbrev pub Executes : PlacedText → Command → Reply Standard → PlacedText → Type 0
Executes v (New s) reply w = (reply ≡ Done) × (new standard_growth (text_of s.now) ≡ Some w)
Executes v Static reply w = (reply ≡ Done) × (w.placement ≡ static_placement w.text) × (w.text ≡ replicate 30 97)
Executes v (WithCapacity n) reply w = (reply ≡ Done) × (with_capacity standard_growth n ≡ Some w)
Executes v (CloneFrom s) reply w =
    (source : Bor PlacedText) × (new standard_growth (text_of s.now) ≡ Some source.now)
    × Step standard_growth v (edits.CloneFrom source) reply w
Executes v (Retain flags) reply w =
    (kept : Bor (List Bool)) × (kept.now ≡ flags.items) × Step standard_growth v (edits.Retain kept) reply w
Executes v (Edit edit) reply w = Step standard_growth v edit reply w

-- the command runs an edit, whose reply needs room; that room is kept
abbrev pub runs_edit : Command → Bool
runs_edit (CloneFrom s) = true
runs_edit (Retain flags) = true
runs_edit (Edit edit) = true
runs_edit command = false

-- the command allocates, and so can fail: for a new value of more than 24 bytes, or room for a reply
abbrev pub command_allocates : Bool → Command → Bool
command_allocates has_room (New s) = with_capacity_allocates (length s.now)
command_allocates has_room Static = false
command_allocates has_room (WithCapacity n) = with_capacity_allocates n
command_allocates has_room (CloneFrom s) = with_capacity_allocates (length s.now) || not has_room
command_allocates has_room (Retain flags) = not has_room
command_allocates has_room (Edit edit) = not has_room

-- from s, the command succeeds with a reply and leaves t, or an allocation fails and s is unchanged
abbrev pub DoesOrRefuses : State → Command → Result (Reply Standard) ReserveError → State → Type 0
DoesOrRefuses s command (Ok reply) t =
    Executes s.value command reply t.value × (t.has_room ≡ (runs_edit command || s.has_room))
DoesOrRefuses s command (Err e) t = (t ≡ s) × IsTrue (command_allocates s.has_room command)
