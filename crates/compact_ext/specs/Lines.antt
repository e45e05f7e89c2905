-- Reading a line of text.
use Rattle.std.specs.Prelude.{ℕ, ◌≡◌, ◌<◌, ◌≤◌, ◌++◌, ◌+◌, List, length, take, Option, IfSome, IsUtf8, ⊤}
use Rattle.std.specs.declared.io.ErrorKind.{ErrorKind}
use Rattle.std.specs.declared.io.ErrorKind.TheVariants.{InvalidData, OutOfMemory}
use Rattle.std.specs.IoError.{error_kind}
use Rattle.std.specs.Io.{StopsAt, IsEmptyOrEndsWith}
use Rattle.std.specs.Io.BufRead.{take_through, DropsThrough}
use Rattle.std.specs.Io.KnownBytes.{Consumes, IsAtEnd}
use Rattle.compact_str.specs.Text.{size, text_of, utf8}
use Rattle.compact_str.specs.Value.{PlacedText}
use Rattle.compact_str.specs.Room.{infallible_capacity}
use Rattle.compact_str.specs.Words.{AllocatesFor, PlacedFor, room_to_append, standard_growth}
use Rattle.compact_ext.specs.declared.lines.ReadLineError.{ReadLineError}
use Rattle.compact_ext.specs.declared.lines.ReadLineError.TheVariants.{Utf8, Io, Reserve}

-- '\n'
abbrev pub newline : ℕ
newline = 10

-- the kind of the I/O error that an error converts to
abbrev pub line_error_kind : ReadLineError → ErrorKind
line_error_kind Utf8 = InvalidData
line_error_kind (Io error) = error_kind error
line_error_kind (Reserve _) = OutOfMemory

-- a line was consumed: the bytes through the next newline, or all that are left
pub record TakesLine (old new : Option (List ℕ)) (line : List ℕ) : Type 0 where
  pub stops : StopsAt line newline
  pub consumed : Consumes old new line
  pub known : IfSome old (λ xs. line ≡ take_through newline xs)
  pub rest : DropsThrough old new newline
  pub end : length line ≡ 0 → IsAtEnd old

-- an error of `read_line`, by the bytes consumed
abbrev pub IsLineFault : Option (List ℕ) → Option (List ℕ) → List ℕ → ReadLineError → Type 0
IsLineFault old new taken Utf8 = TakesLine old new taken × ¬ IsUtf8 taken
IsLineFault old new taken (Io _) = ⊤
IsLineFault old new taken (Reserve _) = ⊤

-- a beginning of a line was consumed, and all of it if it is not valid UTF-8
pub record LineFails (old new : Option (List ℕ)) (e : ReadLineError) : Type 0 where
  pub taken_bytes : List ℕ
  pub bytes : Consumes old new taken_bytes
  pub stops : StopsAt taken_bytes newline
  pub fault : IsLineFault old new taken_bytes e

-- the first n bytes are a line, with its newline
pub record BeginsWithLine (bytes : List ℕ) (n : ℕ) : Type 0 where
  pub within : n ≤ length bytes
  pub some : 0 < n
  pub stops : StopsAt (take n bytes) newline
  pub ends : IsEmptyOrEndsWith (take n bytes) newline

-- bytes are appended to a string
pub record AppendsBytes (old new : PlacedText) (part : List ℕ) : Type 0 where
  pub text : new.text ≡ old.text ++ text_of part
  pub bytes : utf8 new.text ≡ utf8 old.text ++ part
  pub len : size new.text ≡ size old.text + length part
  pub place : PlacedFor standard_growth old new (room_to_append (length part))
  pub room : infallible_capacity old ≤ infallible_capacity new

-- an error of appending bytes to v
abbrev pub IsAppendFault : PlacedText → List ℕ → ReadLineError → Type 0
IsAppendFault v bytes Utf8 = ¬ IsUtf8 bytes
IsAppendFault v bytes (Io _) = ⊥
IsAppendFault v bytes (Reserve _) = AllocatesFor v (room_to_append (length bytes))

-- a line of n bytes is consumed and appended
pub record AppendsLine (before after : Option (List ℕ)) (old new : PlacedText) (n : ℕ) : Type 0 where
  pub line : List ℕ
  pub len : length line ≡ n
  pub taken : TakesLine before after line
  pub appended : AppendsBytes old new line
