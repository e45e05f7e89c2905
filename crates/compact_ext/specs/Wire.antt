-- The wire form of a text, and the results of writing and reading it.
use Rattle.std.specs.Prelude.{ℕ, ◌≡◌, ◌+◌, ◌*◌, ◌^◌, ◌≤◌, ◌<◌, List, ◌++◌, length, take, drop, min, max, Option, Some}
use Rattle.std.specs.Prelude.{Result, MatchResult, IsUtf8, ⊤}
use Rattle.std.specs.Int.{w32, to_le_bytes, from_le_bytes}
use Rattle.std.specs.Io.KnownBytes.{Appends, Consumes, Keeps, IsAtEnd}
use Rattle.compact_str.specs.Text.{IsText, size, utf8}
use Rattle.compact_str.specs.Words.{INLINE_CAPACITY}
use Rattle.compact_str.specs.Value.{PlacedText}
use Rattle.compact_ext.specs.declared.wire.WireError.{WireError}
use Rattle.compact_ext.specs.declared.wire.WireError.TheVariants.{TooLong, UnexpectedEnd, Utf8, Io, WriteZero, Reserve}

-- the wire form of t: its length in bytes, as four bytes with the low one first, and its bytes
abbrev pub wire : List ℕ → List ℕ
wire t = to_le_bytes w32 (size t) ++ utf8 t

-- the length that the first four bytes claim
abbrev pub claimed_len : List ℕ → ℕ
claimed_len bytes = from_le_bytes w32 (take 4 bytes)

-- t has a wire form: its length fits four bytes
abbrev pub HasForm : List ℕ → Type 0
HasForm t = IsText t × size t < 2 ^ 32

-- a proper prefix of the bytes was written
pub record WritesFront (old new : Option (List ℕ)) (all : List ℕ) : Type 0 where
  pub written_bytes : List ℕ
  pub rest : List ℕ
  pub split : all ≡ written_bytes ++ rest
  pub left : 0 < length rest
  pub bytes : Appends old new written_bytes

-- the writer failed, or accepted no bytes
abbrev pub IsWriterFault : WireError → Type 0
IsWriterFault (Io _) = ⊤
IsWriterFault WriteZero = ⊤
IsWriterFault _ = ⊥

-- an error of `write_wire`: the text is too long and nothing was written, or the writer failed
abbrev pub WriteFails : Option (List ℕ) → Option (List ℕ) → List ℕ → WireError → Type 0
WriteFails old new t TooLong = (2 ^ 32 ≤ size t) × Keeps old new
WriteFails old new t e = (size t < 2 ^ 32) × WritesFront old new (wire t) × IsWriterFault e

-- the bytes end inside the length, or inside the text that it claims
abbrev pub IsUnfinished : List ℕ → Type 0
IsUnfinished bytes = 4 ≤ length bytes → length bytes < 4 + claimed_len bytes

-- an error of `read_wire`, by the bytes consumed and the reader after it
abbrev pub IsReadFault : List ℕ → Option (List ℕ) → WireError → Type 0
IsReadFault taken new UnexpectedEnd = IsUnfinished taken × IsAtEnd new
IsReadFault taken new (Io _) = IsUnfinished taken
IsReadFault taken new (Reserve _) =
    (4 ≤ length taken) × (INLINE_CAPACITY < claimed_len taken) × (length taken < 4 + claimed_len taken)
IsReadFault taken new Utf8 = (length taken ≡ 4 + claimed_len taken) × ¬ IsUtf8 (drop 4 taken)
IsReadFault taken new _ = ⊥

-- `read_wire` fails
pub record ReadFails (old new : Option (List ℕ)) (e : WireError) : Type 0 where
  pub taken_bytes : List ℕ
  pub bytes : Consumes old new taken_bytes
  pub fault : IsReadFault taken_bytes new e

-- an error that is not in a form of n bytes of text: the reader or an allocation failed
abbrev pub IsOutsideForm : ℕ → WireError → Type 0
IsOutsideForm n (Io _) = ⊤
IsOutsideForm n (Reserve _) = INLINE_CAPACITY < n
IsOutsideForm n _ = ⊥

-- if the reader begins with a form, its text is read and the rest is left, or the error is not in the form
pub record ReadsBack (old new : Option (List ℕ)) (r : Result PlacedText WireError) : Type 0 where
  pub back : (t rest : List ℕ) → IsText t → size t < 2 ^ 32 → old ≡ Some (wire t ++ rest)
      → MatchResult r (λ v. (v.text ≡ t) × (new ≡ Some rest)) (IsOutsideForm (size t))

-- the front of some bytes is the form of at most one text
abbrev pub FormHasOneText : Type 0
FormHasOneText = (t s rest more : List ℕ) → size t < 2 ^ 32 → size s < 2 ^ 32
    → wire t ++ rest ≡ wire s ++ more → (t ≡ s) × (rest ≡ more)

-- the most bytes of the first allocation
abbrev pub first_room : ℕ
first_room = 1048576

-- the next size of a full buffer, for a text of `len` bytes
abbrev pub next_room : ℕ → ℕ → ℕ
next_room filled len = min len (max first_room (2 * filled))

-- an error of reading n bytes before all have come; an allocation fails only if they do not fit inline
abbrev pub IsStop : ℕ → Option (List ℕ) → WireError → Type 0
IsStop n new UnexpectedEnd = IsAtEnd new
IsStop n new (Io _) = ⊤
IsStop n new (Reserve _) = INLINE_CAPACITY < n
IsStop n new _ = ⊥

-- fewer than n bytes were consumed, and then reading failed
pub record StopsBelow (old new : Option (List ℕ)) (n : ℕ) (e : WireError) : Type 0 where
  pub taken_bytes : List ℕ
  pub bytes : Consumes old new taken_bytes
  pub short : length taken_bytes < n
  pub cause : IsStop n new e

-- n bytes were consumed, and are not valid UTF-8
pub record ConsumesInvalid (old new : Option (List ℕ)) (n : ℕ) : Type 0 where
  pub taken_bytes : List ℕ
  pub bytes : Consumes old new taken_bytes
  pub all : length taken_bytes ≡ n
  pub broken : ¬ IsUtf8 taken_bytes

-- reading a text of n bytes fails
abbrev pub TextFails : Option (List ℕ) → Option (List ℕ) → ℕ → WireError → Type 0
TextFails old new n Utf8 = ConsumesInvalid old new n
TextFails old new n e = StopsBelow old new n e
