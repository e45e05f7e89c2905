-- The command of a line, if it is one.
use Rattle.std.specs.Prelude.{ℕ, ◌+◌, ◌^◌, Bool, ◌&&◌, ◌||◌, List, [], ◌∷◌, ◌==◌, nat_lt, map, length, drop, codes}
use Rattle.std.specs.Prelude.{Option, Some, None, if◌then◌else◌}
use Rattle.std.specs.Option.{option_map, unwrap_or}
use Rattle.std.specs.Borrow.{Bor}
use Rattle.std.specs.List.{before_first, position, list_all}
use Rattle.std.specs.Char.{is_ascii_digit}
use Rattle.std.specs.Str.{bytes_eq, is_utf8}
use Rattle.std.specs.Str.Parse.{digits_value}
use Rattle.std.specs.declared.ops.Bound.{Bound}
use Rattle.std.specs.declared.ops.Bound.TheVariants.{Included, Excluded, Unbounded}
use Rattle.compact_str.specs.Text.{text_of}
use Rattle.compact_str.specs.declared.Standard.{Standard}
use Rattle.compact_edit.specs.declared.edit.Edit.{Edit}
use Rattle.compact_edit.specs.declared.edit.Edit.TheVariants as edits
use Rattle.compact_lines.specs.declared.command.Command.{Command}
use Rattle.compact_lines.specs.declared.command.Command.TheVariants as commands

-- a reference that does not fix where its value is stored
abbrev pub reference_to : {X : Type 0} → X → Bor X
reference_to x = record { ref_ptr = (0, 0); now = x }

-- the same for the references of an edit
abbrev pub edit_itself : Edit Standard → Edit Standard
edit_itself (edits.PushStr s) = edits.PushStr (reference_to s.now)
edit_itself (edits.InsertStr p s) = edits.InsertStr p (reference_to s.now)
edit_itself (edits.ReplaceRange start end s) = edits.ReplaceRange start end (reference_to s.now)
edit_itself (edits.Retain flags) = edits.Retain (reference_to flags.now)
edit_itself (edits.CloneFrom source) = edits.CloneFrom (reference_to source.now)
edit_itself edit = edit

-- the same for a command; `retain` is the edit with its flags
abbrev pub command_itself : Command → Command
command_itself (commands.New s) = commands.New (reference_to s.now)
command_itself (commands.CloneFrom s) = commands.CloneFrom (reference_to s.now)
command_itself (commands.Retain flags) = commands.Edit (edits.Retain (reference_to flags.items))
command_itself (commands.Edit edit) = commands.Edit (edit_itself edit)
command_itself command = command

-- up to the first space, or all
abbrev pub word_of : List ℕ → List ℕ
word_of text = before_first (λ b. b == 32) text

-- after the first space, if there is one
abbrev pub rest_of : List ℕ → Option (List ℕ)
rest_of text = option_map (λ at. drop (at + 1) text) (position (λ b. b == 32) text)

-- f of the value, if there is one
abbrev pub and_then : {X Y : Type 0} → Option X → (X → Option Y) → Option Y
and_then None f = None
and_then (Some x) f = f x

-- N: one or more ASCII digits whose value fits a `usize`
abbrev pub number_of : List ℕ → Option ℕ
number_of digits =
    if nat_lt 0 (length digits) && list_all is_ascii_digit digits && nat_lt (digits_value 10 digits) (2 ^ 64)
    then Some (digits_value 10 digits) else None

-- the item of a list of one
abbrev pub single_item : List ℕ → Option ℕ
single_item [] = None
single_item (c ∷ []) = Some c
single_item (c ∷ d ∷ more) = None

-- C: a text of one character
abbrev pub character_of : List ℕ → Option ℕ
character_of text = single_item (text_of text)

-- S and E: a number, or `-` for an end of the text
abbrev pub start_of : List ℕ → Option (Bound ℕ)
start_of word = if bytes_eq word (codes "-") then Some Unbounded else option_map Included (number_of word)

abbrev pub end_of : List ℕ → Option (Bound ℕ)
end_of word = if bytes_eq word (codes "-") then Some Unbounded else option_map Excluded (number_of word)

-- BITS: 0 and 1, where 1 is true
abbrev pub are_bits : List ℕ → Bool
are_bits text = list_all (λ b. b == 48 || b == 49) text

abbrev pub bits_of : List ℕ → List Bool
bits_of text = map (λ b. b == 49) text

-- looks a word up in a table; a last row for the word itself is the default
abbrev pub row_of_word : {X : Type 0} → List ℕ → List (List ℕ × Option X) → Option X
row_of_word word [] = None
row_of_word word (row ∷ rows) = if bytes_eq word row.0 then row.1 else row_of_word word rows

-- the edit of a single word
abbrev pub bare_edit : List ℕ → Option (Edit Standard)
bare_edit word = row_of_word word (
    (codes "pop", Some edits.Pop)
    ∷ (codes "clear", Some edits.Clear)
    ∷ (codes "shrinktofit", Some edits.ShrinkToFit)
    ∷ (codes "lower", Some edits.MakeLower)
    ∷ (codes "upper", Some edits.MakeUpper)
    ∷ (codes "zeroize", Some edits.Zeroize)
    ∷ [])

-- the edit of a word and a number
abbrev pub number_edit : List ℕ → ℕ → Option (Edit Standard)
number_edit word n = row_of_word word (
    (codes "remove", Some (edits.Remove n))
    ∷ (codes "truncate", Some (edits.Truncate n))
    ∷ (codes "splitoff", Some (edits.SplitOff n))
    ∷ (codes "reserve", Some (edits.Reserve n))
    ∷ (codes "shrinkto", Some (edits.ShrinkTo n))
    ∷ (codes "repeat", Some (edits.Repeat n))
    ∷ [])

-- N C
abbrev pub insert_edit : List ℕ → Option (Edit Standard)
insert_edit rest = and_then (number_of (word_of rest)) (λ p. and_then (rest_of rest) (λ text.
    option_map (λ c. edits.Insert p c) (character_of text)))

-- N TEXT
abbrev pub insert_str_edit : List ℕ → Option (Edit Standard)
insert_str_edit rest = option_map (λ p. edits.InsertStr p (reference_to (unwrap_or (rest_of rest) [])))
    (number_of (word_of rest))

-- S E TEXT
abbrev pub replace_edit : List ℕ → Option (Edit Standard)
replace_edit rest = and_then (rest_of rest) (λ ends. and_then (start_of (word_of rest)) (λ start.
    option_map (λ end. edits.ReplaceRange start end (reference_to (unwrap_or (rest_of ends) [])))
    (end_of (word_of ends))))

-- S E
abbrev pub drain_edit : List ℕ → Option (Edit Standard)
drain_edit rest = and_then (rest_of rest) (λ end. and_then (start_of (word_of rest)) (λ start.
    option_map (λ end. edits.Drain start end) (end_of end)))

-- the edit of a word and the text after its space
abbrev pub field_edit : List ℕ → List ℕ → Option (Edit Standard)
field_edit word rest = row_of_word word (
    (codes "push", option_map (λ c. edits.Push c) (character_of rest))
    ∷ (codes "pushstr", Some (edits.PushStr (reference_to rest)))
    ∷ (codes "insert", insert_edit rest)
    ∷ (codes "insertstr", insert_str_edit rest)
    ∷ (codes "replace", replace_edit rest)
    ∷ (codes "drain", drain_edit rest)
    ∷ (word, and_then (number_of rest) (number_edit word))
    ∷ [])

-- the command of a line with no space: its TEXT or BITS is empty
abbrev pub bare_command : List ℕ → Option Command
bare_command word = row_of_word word (
    (codes "new", Some (commands.New (reference_to [])))
    ∷ (codes "static", Some commands.Static)
    ∷ (codes "clonefrom", Some (commands.CloneFrom (reference_to [])))
    ∷ (codes "pushstr", Some (commands.Edit (edits.PushStr (reference_to []))))
    ∷ (codes "retain", Some (commands.Edit (edits.Retain (reference_to []))))
    ∷ (word, option_map commands.Edit (bare_edit word))
    ∷ [])

-- `retain` with BITS
abbrev pub retain_command : List ℕ → Option Command
retain_command bits = if are_bits bits then Some (commands.Edit (edits.Retain (reference_to (bits_of bits)))) else None

-- any other command of a word and the text after its space
abbrev pub field_command : List ℕ → List ℕ → Option Command
field_command word rest = row_of_word word (
    (codes "new", Some (commands.New (reference_to rest)))
    ∷ (codes "cap", option_map (λ n. commands.WithCapacity n) (number_of rest))
    ∷ (codes "clonefrom", Some (commands.CloneFrom (reference_to rest)))
    ∷ (word, option_map commands.Edit (field_edit word rest))
    ∷ [])

-- the command of a word and the text after its space, if any
abbrev pub command_with : List ℕ → Option (List ℕ) → Option Command
command_with word None = bare_command word
command_with word (Some rest) = if bytes_eq word (codes "retain") then retain_command rest else field_command word rest

-- the command of a text
abbrev pub command_of : List ℕ → Option Command
command_of text = command_with (word_of text) (rest_of text)

-- the command of a line
abbrev pub line_command : List ℕ → Option Command
line_command line = if is_utf8 line then command_of line else None
