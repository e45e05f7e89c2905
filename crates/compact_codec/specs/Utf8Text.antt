-- The text that bytes encode, and the lossy text, with U+FFFD for each invalid sequence.
use Rattle.std.specs.Prelude.{◌≡◌, ◌≢◌, ◌↔◌, ◌⊎◌, ℕ, List, [], ◌∷◌, ◌++◌, length, drop}
use Rattle.std.specs.Char.{IsScalar, encode_utf8}
use Rattle.std.specs.Str.Lossy.{utf8_lossy}
use Rattle.compact_text.specs.Text.{IsText, utf8, text_of, replacement_character}
use Rattle.compact_codec.specs.InvalidSequence.{IsLongestValidPrefix, IsMaximalSubpart}

abbrev pub BytesEncode : List ℕ → List ℕ → Type 0
BytesEncode bytes text = IsText text × (utf8 text ≡ bytes)

-- the lossy text: each valid sequence is its character, and each maximal subpart, where no character begins, U+FFFD
abbrev pub IsUtf8LossyText : List ℕ → List ℕ → Type 0
IsUtf8LossyText bytes [] = bytes ≡ []
IsUtf8LossyText bytes (c ∷ text) =
    ((rest : List ℕ) × IsScalar c × (bytes ≡ encode_utf8 c ++ rest) × IsUtf8LossyText rest text)
    ⊎ ((n : ℕ) × (c ≡ replacement_character) × IsMaximalSubpart bytes n × IsUtf8LossyText (drop n bytes) text)

unfoldable pub utf8_lossy_text : List ℕ → List ℕ
utf8_lossy_text bytes = text_of (utf8_lossy bytes)

-- U+FFFD for invalid bytes, nothing for no bytes
abbrev pub replacement_text : List ℕ → List ℕ
replacement_text [] = []
replacement_text (b ∷ bs) = replacement_character ∷ []

-- the first chunk: the longest valid prefix and the invalid sequence after it, which is empty only if nothing follows;
-- then the rest
pub record BeginsWithChunk (bytes valid invalid rest : List ℕ) : Type 0 where
  pub parts : bytes ≡ valid ++ (invalid ++ rest)
  pub prefix : IsLongestValidPrefix bytes (length valid)
  pub whole : invalid ≡ [] → rest ≡ []
  pub subpart : invalid ≢ [] → IsMaximalSubpart (invalid ++ rest) (length invalid)

-- bytes encode at most one text
abbrev pub BytesEncodeOneText : Type 0
BytesEncodeOneText = (bytes text other : List ℕ) → BytesEncode bytes text → BytesEncode bytes other → text ≡ other

-- bytes have exactly one lossy text
abbrev pub Utf8LossyTextIsUnique : Type 0
Utf8LossyTextIsUnique = (bytes text : List ℕ) → IsUtf8LossyText bytes text ↔ (text ≡ utf8_lossy_text bytes)

-- the lossy text of a text's bytes is the text
abbrev pub Utf8LossyTextOfText : Type 0
Utf8LossyTextOfText = (bytes text : List ℕ) → BytesEncode bytes text → utf8_lossy_text bytes ≡ text
