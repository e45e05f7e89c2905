-- The output for the lines of the input. A line ends with the byte 10, which the last may lack.
use Rattle.std.specs.Prelude.{◌≡◌, ◌<◌, ℕ, List, [], ◌∷◌, ◌++◌, ◌⊎◌, length, flat_map, codes, Option, None, Some}
use Rattle.std.specs.Prelude.{IfSome, Result, Ok, Err}
use Rattle.std.specs.Borrow.{Bor}
use Rattle.std.specs.Option.{option_map}
use Rattle.std.specs.List.{concat}
use Rattle.std.specs.Char.{encode_utf8}
use Rattle.std.specs.Fmt.{decimal}
use Rattle.std.specs.Io.BufRead.{first_piece, drop_through}
use Rattle.std.specs.Io.KnownBytes.{IsAtEnd, Appends, Keeps}
use Rattle.compact_str.specs.Text.{utf8, size}
use Rattle.compact_str.specs.Value.{Place, inline, heap, static, PlacedText}
use Rattle.compact_str.specs.declared.Standard.{Standard}
use Rattle.compact_str.specs.declared.ReserveError.{ReserveError}
use Rattle.compact_edit.specs.declared.edit.Reply.{Reply}
use Rattle.compact_edit.specs.declared.edit.Reply.TheVariants.{Done, Char, Text, BadPosition, Refused}
use Rattle.compact_lines.specs.declared.command.Command.{Command}
use Rattle.compact_lines.specs.Sessions.{State, first_state, DoesOrRefuses}
use Rattle.compact_lines.specs.Commands.{line_command}

-- the concatenated bytes of some texts
abbrev pub bytes_of : List (Bor (List ℕ)) → List ℕ
bytes_of texts = flat_map (λ t. t.now) texts

-- the writer's bytes grew by a prefix of these: perhaps none, perhaps all
pub record AppendsFront (old new : Option (List ℕ)) (bytes : List ℕ) : Type 0 where
  pub written_bytes : List ℕ
  pub rest : List ℕ
  pub parts : bytes ≡ written_bytes ++ rest
  pub appended : Appends old new written_bytes

abbrev pub reply_line : Reply Standard → List ℕ
reply_line Done = codes "done\n"
reply_line (Char (Some c)) = codes "char " ++ encode_utf8 c ++ codes "\n"
reply_line (Char None) = codes "none\n"
reply_line (Text v) = codes "text " ++ utf8 v.text ++ codes "\n"
reply_line BadPosition = codes "bad position\n"
reply_line (Refused e) = codes "refused\n"

abbrev pub place_word : Place → List ℕ
place_word inline = codes "inline"
place_word heap = codes "heap"
place_word static = codes "static"

abbrev pub value_line : PlacedText → List ℕ
value_line v =
    place_word v.placement.place ++ codes " " ++ decimal (size v.text) ++ codes " " ++ decimal v.placement.capacity
    ++ codes " " ++ utf8 v.text ++ codes "\n"

-- the line for a command's outcome
abbrev pub outcome_line : Result (Reply Standard) ReserveError → List ℕ
outcome_line (Ok reply) = reply_line reply
outcome_line (Err e) = codes "refused\n"

-- from s, the command may write this line and lead to t; a line that is no command writes a mark and leaves s
abbrev pub AnswersCommand : State → Option Command → List ℕ → State → Type 0
AnswersCommand s None answer t = (answer ≡ codes "?\n") × (t ≡ s)
AnswersCommand s (Some command) answer t =
    (outcome : Result (Reply Standard) ReserveError) × (answer ≡ outcome_line outcome ++ value_line t.value)
    × DoesOrRefuses s command outcome t

-- the same for a line
abbrev pub AnswersLine : State → List ℕ → List ℕ → State → Type 0
AnswersLine s line answer t = AnswersCommand s (line_command line) answer t

-- from s, a command leads to t, and the writer's bytes grew by its output
pub record AppendsAnswer (s : State) (command : Option Command) (old new : Option (List ℕ)) (t : State) : Type 0 where
  pub answer : List ℕ
  pub answers : AnswersCommand s command answer t
  pub written : Appends old new answer

-- the same, but by a prefix of the output
pub record AppendsAnswerFront (s : State) (command : Option Command) (old new : Option (List ℕ)) (t : State) : Type
    0 where
  pub answer : List ℕ
  pub answers : AnswersCommand s command answer t
  pub written : AppendsFront old new answer

-- the writer's bytes are unchanged, or grew by a prefix of the output for the line from s
abbrev pub AppendsPart : State → List ℕ → Option (List ℕ) → Option (List ℕ) → Type 0
AppendsPart s line old new = Keeps old new ⊎ ((t : State) × AppendsAnswerFront s (line_command line) old new t)

-- the line is the first of the known bytes
abbrev pub IsFirstLine : Option (List ℕ) → List ℕ → Type 0
IsFirstLine known line = IfSome known (λ bytes. (0 < length bytes) × (line ≡ first_piece 10 bytes))

-- from s, the first lines of the known bytes may write these, one by one, and end with t and these bytes left
abbrev pub AnswersLines : State → Option (List ℕ) → List (List ℕ) → Option (List ℕ) → State → Type 0
AnswersLines s known [] left t = (left ≡ known) × (t ≡ s)
AnswersLines s known (answer ∷ answers) left t =
    (line : List ℕ) × (u : State) × IsFirstLine known line × AnswersLine s line answer u
    × AnswersLines u (option_map (λ bytes. drop_through 10 bytes) known) answers left t

-- from s, the writer's bytes grew by the output for all lines of the known bytes, which end with t
pub record AppendsAnswers (s : State) (known old new : Option (List ℕ)) (t : State) : Type 0 where
  pub answers : List (List ℕ)
  pub left : Option (List ℕ)
  pub lines : AnswersLines s known answers left t
  pub end : IsAtEnd left
  pub written : Appends old new (concat answers)

-- from s, they grew by a prefix of the output for some first lines, or none
pub record AppendsSomeAnswers (s : State) (known old new : Option (List ℕ)) : Type 0 where
  pub answers : List (List ℕ)
  pub left : Option (List ℕ)
  pub last : State
  pub lines : AnswersLines s known answers left last
  pub written : AppendsFront old new (concat answers)

-- from the empty value on, all lines of the known bytes were run
pub record AnswersInput (known old new : Option (List ℕ)) : Type 0 where
  pub last : State
  pub all : AppendsAnswers first_state known old new last

-- from the empty value on, some first lines were run, perhaps in part
abbrev pub AnswersInPart : Option (List ℕ) → Option (List ℕ) → Option (List ℕ) → Type 0
AnswersInPart known old new = AppendsSomeAnswers first_state known old new
