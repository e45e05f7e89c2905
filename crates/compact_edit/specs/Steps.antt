-- Single edits: the value afterwards, and the reply.
use Rattle.std.specs.Prelude.{IsTrue, ◌≡◌, ℕ, ◌<◌, Bool, ◌||◌, false, Option, Some, [], ◌∷◌}
use Rattle.std.specs.Char.{len_utf8}
use Rattle.compact_str.specs.Text.{text_of, size}
use Rattle.compact_str.specs.Cut.{IsBoundary, substring}
use Rattle.compact_str.specs.Value.{PlacedText}
use Rattle.compact_str.specs.Capacity.{Growth, with_capacity_allocates, reserve_allocates, make_owned_allocates}
use Rattle.compact_str.specs.Calls.{new, push_str, push_str_allocates, clear, reserve, truncate, Shrinks, insert_str}
use Rattle.compact_str.specs.Calls.{replace_range, replace_range_allocates, make_ascii_lowercase, make_ascii_uppercase}
use Rattle.compact_str.specs.Calls.{retain, zeroize, PopsChar}
use Rattle.compact_str.specs.RetainRules.{retained_text, flag_rule}
use Rattle.compact_str.specs.Edits.{clone_from, clone_from_allocates, Removes, SplitsOff, split_allocates, repeat}
use Rattle.compact_str.specs.Edits.{repeat_allocates}
use Rattle.compact_str.specs.Ranges.{IsRange, span, range_start, range_end}
use Rattle.compact_edit.specs.declared.edit.Edit.{Edit}
use Rattle.compact_edit.specs.declared.edit.Edit.TheVariants.{Push, PushStr, Pop, Insert, InsertStr, Remove, Truncate}
use Rattle.compact_edit.specs.declared.edit.Edit.TheVariants.{Clear, SplitOff, ReplaceRange, Drain, Retain, Reserve}
use Rattle.compact_edit.specs.declared.edit.Edit.TheVariants.{ShrinkTo, ShrinkToFit, MakeLower, MakeUpper, Zeroize}
use Rattle.compact_edit.specs.declared.edit.Edit.TheVariants.{Repeat, CloneFrom}
use Rattle.compact_edit.specs.declared.edit.Reply.{Reply}
use Rattle.compact_edit.specs.declared.edit.Reply.TheVariants.{Done, Char, Text, BadPosition, Refused}

-- the positions of the edit are boundaries of v, as it requires
abbrev pub IsLegal : {P : Type 0} → PlacedText → Edit P → Type 0
IsLegal v (Push c) = Unit {0}
IsLegal v (PushStr s) = Unit {0}
IsLegal v Pop = Unit {0}
IsLegal v (Insert p c) = IsBoundary v.text p
IsLegal v (InsertStr p s) = IsBoundary v.text p
IsLegal v (Remove p) = (p < size v.text) × IsBoundary v.text p
IsLegal v (Truncate n) = n < size v.text → IsBoundary v.text n
IsLegal v Clear = Unit {0}
IsLegal v (SplitOff p) = IsBoundary v.text p
IsLegal v (ReplaceRange start end s) = IsRange v.text (span start end)
IsLegal v (Drain start end) = IsRange v.text (span start end)
IsLegal v (Retain flags) = Unit {0}
IsLegal v (Reserve n) = Unit {0}
IsLegal v (ShrinkTo n) = Unit {0}
IsLegal v ShrinkToFit = Unit {0}
IsLegal v MakeLower = Unit {0}
IsLegal v MakeUpper = Unit {0}
IsLegal v Zeroize = Unit {0}
IsLegal v (Repeat n) = Unit {0}
IsLegal v (CloneFrom source) = Unit {0}

-- the edit allocates a heap buffer, and so may fail
abbrev pub edit_allocates : {P : Type 0} → PlacedText → Edit P → Bool
edit_allocates v (Push c) = push_str_allocates v (c ∷ [])
edit_allocates v (PushStr s) = push_str_allocates v (text_of s.now)
edit_allocates v Pop = false
edit_allocates v (Insert p c) = reserve_allocates v (len_utf8 c)
edit_allocates v (InsertStr p s) = reserve_allocates v (size (text_of s.now))
edit_allocates v (Remove p) = make_owned_allocates v
edit_allocates v (Truncate n) = false
edit_allocates v Clear = false
edit_allocates v (SplitOff p) = split_allocates v p
edit_allocates v (ReplaceRange start end s) = replace_range_allocates v (range_start start) (range_end v.text end)
    (text_of s.now)
edit_allocates v (Drain start end) = with_capacity_allocates
    (size (substring v.text (range_start start) (range_end v.text end))) || make_owned_allocates v
edit_allocates v (Retain flags) = make_owned_allocates v
edit_allocates v (Reserve n) = reserve_allocates v n
edit_allocates v (ShrinkTo n) = false
edit_allocates v ShrinkToFit = false
edit_allocates v MakeLower = make_owned_allocates v
edit_allocates v MakeUpper = make_owned_allocates v
edit_allocates v Zeroize = false
edit_allocates v (Repeat n) = repeat_allocates v n
edit_allocates v (CloneFrom source) = clone_from_allocates v source.now

abbrev pub EditAllocates : {P : Type 0} → PlacedText → Edit P → Type 0
EditAllocates v edit = IsTrue (edit_allocates v edit)

-- the reply and the value of an edit that succeeds
abbrev pub EditGives : {P : Type 0} → Growth → PlacedText → Edit P → Reply P → PlacedText → Type 0
EditGives g v (Push c) reply w = (reply ≡ Done) × (push_str g v (c ∷ []) ≡ Some w)
EditGives g v (PushStr s) reply w = (reply ≡ Done) × (push_str g v (text_of s.now) ≡ Some w)
EditGives g v Pop reply w = (c : Option ℕ) × (reply ≡ Char c) × PopsChar v c w
EditGives g v (Insert p c) reply w = (reply ≡ Done) × (insert_str g v p (c ∷ []) ≡ Some w)
EditGives g v (InsertStr p s) reply w = (reply ≡ Done) × (insert_str g v p (text_of s.now) ≡ Some w)
EditGives g v (Remove p) reply w = (c : ℕ) × (reply ≡ Char (Some c)) × Removes g v p c w
EditGives g v (Truncate n) reply w = (reply ≡ Done) × (w ≡ truncate v n)
EditGives g v Clear reply w = (reply ≡ Done) × (w ≡ clear v)
EditGives g v (SplitOff p) reply w = (tail : PlacedText) × (reply ≡ Text tail) × SplitsOff g v p tail w
EditGives g v (ReplaceRange start end s) reply w =
    (reply ≡ Done) × (replace_range g v (range_start start) (range_end v.text end) (text_of s.now) ≡ Some w)
EditGives g v (Drain start end) reply w =
    (range : PlacedText) × (reply ≡ Text range) × (new g (substring v.text (range_start start) (range_end v.text end))
    ≡ Some range)
    × (replace_range g v (range_start start) (range_end v.text end) [] ≡ Some w)
EditGives g v (Retain flags) reply w = (reply ≡ Done) × (retain g v (retained_text flag_rule flags.now v.text) ≡ Some w)
EditGives g v (Reserve n) reply w = (reply ≡ Done) × (reserve g v n ≡ Some w)
EditGives g v (ShrinkTo n) reply w = (reply ≡ Done) × Shrinks g v n w
EditGives g v ShrinkToFit reply w = (reply ≡ Done) × Shrinks g v 0 w
EditGives g v MakeLower reply w = (reply ≡ Done) × (make_ascii_lowercase g v ≡ Some w)
EditGives g v MakeUpper reply w = (reply ≡ Done) × (make_ascii_uppercase g v ≡ Some w)
EditGives g v Zeroize reply w = (reply ≡ Done) × (w ≡ zeroize v)
EditGives g v (Repeat n) reply w = (all : PlacedText) × (reply ≡ Text all) × (repeat g v n ≡ Some all) × (w ≡ v)
EditGives g v (CloneFrom source) reply w = (reply ≡ Done) × (clone_from g v source.now ≡ Some w)

-- the edit may turn v into w with this reply
abbrev pub Step : {P : Type 0} → Growth → PlacedText → Edit P → Reply P → PlacedText → Type 0
Step g v edit BadPosition w = (w ≡ v) × ¬ (IsLegal v edit)
Step g v edit (Refused e) w = (w ≡ v) × IsLegal v edit × EditAllocates v edit
Step g v edit Done w = IsLegal v edit × EditGives g v edit Done w
Step g v edit (Char c) w = IsLegal v edit × EditGives g v edit (Char c) w
Step g v edit (Text t) w = IsLegal v edit × EditGives g v edit (Text t) w
