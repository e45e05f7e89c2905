-- Bytes as units of UTF-16, two a unit (Unicode Standard, 3.10, D96 UTF-16BE and D97 UTF-16LE).
use Rattle.std.specs.Prelude.{◌≡◌, ◌↔◌, ℕ, ◌+◌, ◌*◌, ◌/◌, ◌%◌, ◌<◌, List, [], ◌∷◌, ◌++◌, All}
use Rattle.std.specs.List.{flat_map}
use Rattle.compact_codec.specs.declared.utf16_bytes.ByteOrder.{ByteOrder}
use Rattle.compact_codec.specs.declared.utf16_bytes.ByteOrder.TheVariants.{LittleEndian, BigEndian}
use Rattle.compact_text.specs.Text.{replacement_character}
use Rattle.compact_codec.specs.Utf16Text.{UnitsEncode, IsUtf16, IsUtf16LossyText, utf16_lossy_text}

-- the unit of two bytes: the low byte is first in little-endian order, the high byte in big-endian order
abbrev pub unit_of : ByteOrder → ℕ → ℕ → ℕ
unit_of LittleEndian first second = first + second * 256
unit_of BigEndian first second = first * 256 + second

abbrev pub unit_bytes : ByteOrder → ℕ → List ℕ
unit_bytes LittleEndian u = u % 256 ∷ u / 256 ∷ []
unit_bytes BigEndian u = u / 256 ∷ u % 256 ∷ []

-- the units of all pairs, without an odd last byte
abbrev pub units_of : ByteOrder → List ℕ → List ℕ
units_of order [] = []
units_of order (first ∷ []) = []
units_of order (first ∷ second ∷ bytes) = unit_of order first second ∷ units_of order bytes

abbrev pub ArePairs : List ℕ → Type 0
ArePairs [] = Unit {0}
ArePairs (first ∷ []) = ⊥
ArePairs (first ∷ second ∷ bytes) = ArePairs bytes

-- U+FFFD for an odd last byte, at the end of a lossy text
abbrev pub odd_byte_text : List ℕ → List ℕ
odd_byte_text [] = []
odd_byte_text (first ∷ []) = replacement_character ∷ []
odd_byte_text (first ∷ second ∷ bytes) = odd_byte_text bytes

-- the bytes are those of a text's units
abbrev pub IsUtf16Bytes : ByteOrder → List ℕ → Type 0
IsUtf16Bytes order bytes = ArePairs bytes × IsUtf16 (units_of order bytes)

-- the lossy text: one U+FFFD for each unpaired surrogate, and one at the end for an odd last byte
abbrev pub IsUtf16BytesLossyText : ByteOrder → List ℕ → List ℕ → Type 0
IsUtf16BytesLossyText order bytes text =
    (prefix : List ℕ) × IsUtf16LossyText (units_of order bytes) prefix × (text ≡ prefix ++ odd_byte_text bytes)

unfoldable pub utf16_bytes_lossy_text : ByteOrder → List ℕ → List ℕ
utf16_bytes_lossy_text order bytes = utf16_lossy_text (units_of order bytes) ++ odd_byte_text bytes

abbrev pub AreBytes : List ℕ → Type 0
AreBytes bytes = All (λ b. b < 256) bytes

-- units written as bytes read back as those units, and pairs of bytes are those of their units
abbrev pub PairsAreTheUnits : Type 0
PairsAreTheUnits =
    ((order : ByteOrder) (units : List ℕ)
    → (units_of order (flat_map (unit_bytes order) units) ≡ units) × ArePairs (flat_map (unit_bytes order) units))
    × ((order : ByteOrder) (bytes : List ℕ) → AreBytes bytes → ArePairs bytes
    → flat_map (unit_bytes order) (units_of order bytes) ≡ bytes)

-- bytes have exactly one lossy text
abbrev pub Utf16BytesLossyTextIsUnique : Type 0
Utf16BytesLossyTextIsUnique = (order : ByteOrder) (bytes text : List ℕ) → AreBytes bytes
    → IsUtf16BytesLossyText order bytes text ↔ (text ≡ utf16_bytes_lossy_text order bytes)

-- the lossy text of the bytes of a text's units is the text
abbrev pub Utf16BytesLossyTextOfText : Type 0
Utf16BytesLossyTextOfText = (order : ByteOrder) (bytes text : List ℕ) → ArePairs bytes
    → UnitsEncode (units_of order bytes) text → utf16_bytes_lossy_text order bytes ≡ text
