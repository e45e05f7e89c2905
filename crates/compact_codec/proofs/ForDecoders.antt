-- For crates that decode a text by these steps. Use it at the decoder, as
-- `#[tactic(auto, using(compact_codec::proofs::ForDecoders::lossy_decoding_facts))]`.
use Rattle.std.proofs.Common.{◌≡◌, ◌≤◌, ℕ, List, [], ◌++◌, length, drop, drop_of_length-le, refl, IsUtf8, sym, ap}
use Rattle.std.proofs.Common.{subst, ◌∙◌, append-nil}
use Rattle.compact_codec.specs.declared.utf16_bytes.ByteOrder.{ByteOrder}
use Rattle.compact_codec.specs.Utf8Text.{BytesEncode, utf8_lossy_text}
use Rattle.compact_codec.specs.Utf16Text.{UnitsEncode, IsUtf16, utf16_lossy_text}
use Rattle.compact_codec.specs.Utf16Bytes.{units_of, IsUtf16Bytes, utf16_bytes_lossy_text}
use Rattle.compact_codec.proofs.Utf8TextLemmas.{utf8_lossy_text-IsUtf8, utf8_lossy_text-empty, utf8_lossy_text_of_text}
use Rattle.compact_codec.proofs.Utf8TextLemmas.{replacement_text-none, replacement_text-some}
use Rattle.compact_codec.proofs.Utf16TextLemmas.{utf16_lossy_text-empty, utf16_lossy_text_of_text}
use Rattle.compact_codec.proofs.Utf16BytesLemmas.{utf16_bytes_lossy_text_of_text}

-- the decoded text is the whole if nothing is left to read
pub made-utf8_lossy_text : (made bytes : List ℕ) → length bytes ≡ 0 → made ++ utf8_lossy_text bytes ≡ made
made-utf8_lossy_text made bytes none = ap (λ t. made ++ t) (utf8_lossy_text-empty bytes none) ∙ append-nil made

pub made-utf16_lossy_text : (made units : List ℕ) (at : ℕ) → length units ≤ at
    → made ++ utf16_lossy_text (drop at units) ≡ made
made-utf16_lossy_text made units at past =
    ap (λ l. made ++ utf16_lossy_text l) (drop_of_length-le units past)
    ∙ ap (λ t. made ++ t) (utf16_lossy_text-empty [] refl)
    ∙ append-nil made

pub ruleset lossy_decoding_facts = (
  made-utf8_lossy_text,
  made-utf16_lossy_text,
  utf8_lossy_text-IsUtf8,
  replacement_text-none,
  replacement_text-some,
)

-- for strict decoders: the text of validated bytes is the one they encode
pub BytesEncode-utf8_lossy_text : (bytes : List ℕ) → IsUtf8 bytes → BytesEncode bytes (utf8_lossy_text bytes)
BytesEncode-utf8_lossy_text bytes (text, is) = subst (BytesEncode bytes) (sym (utf8_lossy_text_of_text bytes text is))
    is

pub UnitsEncode-utf16_lossy_text : (units : List ℕ) → IsUtf16 units → UnitsEncode units (utf16_lossy_text units)
UnitsEncode-utf16_lossy_text units (text, is) = subst (UnitsEncode units)
    (sym (utf16_lossy_text_of_text units text is)) is

pub UnitsEncode-utf16_bytes_lossy_text : (order : ByteOrder) (bytes : List ℕ) → IsUtf16Bytes order bytes
    → UnitsEncode (units_of order bytes) (utf16_bytes_lossy_text order bytes)
UnitsEncode-utf16_bytes_lossy_text order bytes (pairs, (text, is)) =
    subst (UnitsEncode (units_of order bytes)) (sym (utf16_bytes_lossy_text_of_text order bytes text pairs is)) is

pub ruleset strict_decoding_facts = (
  lossy_decoding_facts,
  utf8_lossy_text_of_text,
  utf16_lossy_text_of_text,
  utf16_bytes_lossy_text_of_text,
  BytesEncode-utf8_lossy_text,
  UnitsEncode-utf16_lossy_text,
  UnitsEncode-utf16_bytes_lossy_text,
)
