-- Characters as units of UTF-16 (Unicode Standard, 3.9, D91 and Table 3-5), and the lossy text of any units.
use Rattle.std.specs.Prelude.{◌≡◌, ◌↔◌, ◌⊎◌, ℕ, ◌^◌, ◌<◌, ◌≤◌, false, List, [], ◌∷◌, ◌++◌, length, take, drop, Option}
use Rattle.std.specs.Prelude.{Some, None, All}
use Rattle.std.specs.Char.{IsScalar}
use Rattle.std.specs.Char.Escape.{encode_utf16}
use Rattle.std.specs.Char.Utf16.{utf16_lossy_chars, has_unpaired_surrogate}
use Rattle.std.specs.List.{flat_map}
use Rattle.compact_text.specs.Text.{IsText, replacement_character}

-- the units of t: one or two for each character
abbrev pub utf16 : List ℕ → List ℕ
utf16 t = flat_map encode_utf16 t

abbrev pub AreUnits : List ℕ → Type 0
AreUnits units = All (λ u. u < 2 ^ 16) units

-- the first and the second unit of a surrogate pair (3.8, D72, D74 and D75)
abbrev pub IsHighSurrogate : ℕ → Type 0
IsHighSurrogate u = (0xD800 ≤ u) × (u ≤ 0xDBFF)

abbrev pub IsLowSurrogate : ℕ → Type 0
IsLowSurrogate u = (0xDC00 ≤ u) × (u ≤ 0xDFFF)

abbrev pub UnitsEncode : List ℕ → List ℕ → Type 0
UnitsEncode units text = IsText text × (utf16 text ≡ units)

-- the units encode some text
abbrev pub IsUtf16 : List ℕ → Type 0
IsUtf16 units = (text : List ℕ) × UnitsEncode units text

abbrev pub BeginsWithLowSurrogate : List ℕ → Type 0
BeginsWithLowSurrogate [] = ⊥
BeginsWithLowSurrogate (u ∷ units) = IsLowSurrogate u

abbrev pub BeginsWithUnpairedSurrogate : List ℕ → Type 0
BeginsWithUnpairedSurrogate [] = ⊥
BeginsWithUnpairedSurrogate (u ∷ units) = IsLowSurrogate u ⊎ (IsHighSurrogate u × ¬ (BeginsWithLowSurrogate units))

-- the lossy text: one U+FFFD for each unpaired surrogate
abbrev pub IsUtf16LossyText : List ℕ → List ℕ → Type 0
IsUtf16LossyText units [] = units ≡ []
IsUtf16LossyText units (c ∷ text) =
    ((rest : List ℕ) × IsScalar c × (units ≡ encode_utf16 c ++ rest) × IsUtf16LossyText rest text)
    ⊎ ((c ≡ replacement_character) × BeginsWithUnpairedSurrogate units × IsUtf16LossyText (drop 1 units) text)

abbrev pub utf16_lossy_text : List ℕ → List ℕ
utf16_lossy_text units = utf16_lossy_chars units

-- the first n units are this character, or one unpaired surrogate
abbrev pub IsUtf16Step : List ℕ → Option ℕ → ℕ → Type 0
IsUtf16Step units (Some c) n = IsScalar c × (n ≤ length units) × (take n units ≡ encode_utf16 c)
IsUtf16Step units None n = BeginsWithUnpairedSurrogate units × (n ≡ 1)

-- units encode at most one text
abbrev pub UnitsEncodeOneText : Type 0
UnitsEncodeOneText = (units text other : List ℕ) → UnitsEncode units text → UnitsEncode units other → text ≡ other

-- units encode a text exactly if no surrogate is unpaired
abbrev pub Utf16HasNoUnpairedSurrogate : Type 0
Utf16HasNoUnpairedSurrogate = (units : List ℕ) → AreUnits units → IsUtf16 units ↔ (has_unpaired_surrogate units ≡ false)

-- units have exactly one lossy text
abbrev pub Utf16LossyTextIsUnique : Type 0
Utf16LossyTextIsUnique = (units text : List ℕ) → AreUnits units
    → IsUtf16LossyText units text ↔ (text ≡ utf16_lossy_text units)

-- the lossy text of a text's units is the text
abbrev pub Utf16LossyTextOfText : Type 0
Utf16LossyTextOfText = (units text : List ℕ) → UnitsEncode units text → utf16_lossy_text units ≡ text
