-- The well-formed byte sequences of UTF-8 (Unicode Standard, 3.9, D92 and Table 3-7).
use Rattle.std.specs.Prelude.{◌≡◌, ◌↔◌, ◌⊎◌, ℕ, ◌≤◌, List, [], ◌∷◌}
use Rattle.std.specs.Char.{IsScalar, encode_utf8}

-- the bytes from least to most, inclusive
pub record ByteRange : Type 0 where
  pub least : ℕ
  pub most : ℕ

-- the range of each byte of a sequence, in order
abbrev pub TableRow : Type 0
TableRow = List ByteRange

abbrev pub byte_range : ℕ → ℕ → ByteRange
byte_range least most = record { least = least; most = most }

-- the range of a continuation byte, unless its row narrows it
abbrev pub trailing_bytes : ByteRange
trailing_bytes = byte_range 0x80 0xBF

-- Table 3-7
abbrev pub sequence_table : List TableRow
sequence_table = (byte_range 0x00 0x7F ∷ [])
    ∷ (byte_range 0xC2 0xDF ∷ trailing_bytes ∷ [])
    ∷ (byte_range 0xE0 0xE0 ∷ byte_range 0xA0 0xBF ∷ trailing_bytes ∷ [])
    ∷ (byte_range 0xE1 0xEC ∷ trailing_bytes ∷ trailing_bytes ∷ [])
    ∷ (byte_range 0xED 0xED ∷ byte_range 0x80 0x9F ∷ trailing_bytes ∷ [])
    ∷ (byte_range 0xEE 0xEF ∷ trailing_bytes ∷ trailing_bytes ∷ [])
    ∷ (byte_range 0xF0 0xF0 ∷ byte_range 0x90 0xBF ∷ trailing_bytes ∷ trailing_bytes ∷ [])
    ∷ (byte_range 0xF1 0xF3 ∷ trailing_bytes ∷ trailing_bytes ∷ trailing_bytes ∷ [])
    ∷ (byte_range 0xF4 0xF4 ∷ byte_range 0x80 0x8F ∷ trailing_bytes ∷ trailing_bytes ∷ [])
    ∷ []

abbrev pub IsInByteRange : ByteRange → ℕ → Type 0
IsInByteRange r byte = (r.least ≤ byte) × (byte ≤ r.most)

-- one byte in each range of the row
abbrev pub FitsRow : TableRow → List ℕ → Type 0
FitsRow [] [] = Unit {0}
FitsRow [] (b ∷ bs) = ⊥
FitsRow (r ∷ rs) [] = ⊥
FitsRow (r ∷ rs) (b ∷ bs) = IsInByteRange r b × FitsRow rs bs

abbrev pub FitsSomeRow : List TableRow → List ℕ → Type 0
FitsSomeRow [] bs = ⊥
FitsSomeRow (row ∷ rows) bs = FitsRow row bs ⊎ FitsSomeRow rows bs

abbrev pub IsWellFormedSequence : List ℕ → Type 0
IsWellFormedSequence bs = FitsSomeRow sequence_table bs

-- the bytes are the encoding of one character
abbrev pub IsOneCharacter : List ℕ → Type 0
IsOneCharacter bs = (c : ℕ) × IsScalar c × (encode_utf8 c ≡ bs)

-- no bytes fit two rows
abbrev pub RowsAreApart : List TableRow → Type 0
RowsAreApart [] = Unit {0}
RowsAreApart (row ∷ rows) = ((bs : List ℕ) → FitsRow row bs → ¬ (FitsSomeRow rows bs)) × RowsAreApart rows

-- the well-formed sequences are exactly the encodings of characters
pub record TableIsTheEncodings : Type 0 where
  pub encodings : (bs : List ℕ) → IsWellFormedSequence bs ↔ IsOneCharacter bs
  pub one_row : RowsAreApart sequence_table
  pub one_character : (c d : ℕ) → IsScalar c → IsScalar d → encode_utf8 c ≡ encode_utf8 d → c ≡ d
