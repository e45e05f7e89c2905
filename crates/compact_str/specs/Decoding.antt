-- Results of decoding, and the errors of the decoders.
use Rattle.std.specs.Prelude.{◌≡◌, ◌<◌, ◌≤◌, ℕ, List, Result, IfOk, OnErr, IsOk, [], length, drop}
use Rattle.compact_repr.specs.Text.{size}
use Rattle.compact_repr.specs.Value.{PlacedText}
use Rattle.compact_repr.specs.declared.inline.TheConstants.{INLINE_CAPACITY}
use Rattle.std.specs.Str.{IsUtf8, valid_up_to, error_len}
use Rattle.std.specs.declared.str.Utf8Error.{Utf8Error}
use Rattle.compact_codec.specs.InvalidSequence.{IsUtf8Error}
use Rattle.compact_codec.specs.Utf16Text.{IsUtf16, UnitsEncode}
use Rattle.compact_codec.specs.Utf16Bytes.{units_of, ArePairs, IsUtf16Bytes}
use Rattle.compact_codec.specs.declared.utf16_bytes.ByteOrder.{ByteOrder}
use Rattle.compact_str.specs.declared.decode.error.FromUtf8Error.{FromUtf8Error}
use Rattle.compact_str.specs.declared.decode.error.FromUtf8Error.TheVariants.{Utf8, Reserve}
use Rattle.compact_str.specs.declared.decode.error.FromUtf16Error.{FromUtf16Error}
use Rattle.compact_str.specs.declared.decode.error.FromUtf16Error.TheVariants.{Utf16, Reserve as NoRoom}
use Rattle.compact_str.specs.Room.{IsPlacedBySize}

-- what `from_utf8_lossy` ensures of the text t, for calls that decode as it does
pub record MakesText {E : Type 0} (t : List ℕ) (r : Result PlacedText E) : Type 0 where
  pub text : IfOk r (λ v. v.text ≡ t)
  pub place : IfOk r IsPlacedBySize
  pub succeeds : size t ≤ INLINE_CAPACITY → IsOk r
  pub allocates : OnErr r (INLINE_CAPACITY < size t)

-- the bytes left once some are consumed
abbrev pub IsSuffixOf : List ℕ → List ℕ → Type 0
IsSuffixOf left bytes = (n : ℕ) × (left ≡ drop n bytes)

-- std's error says where invalid bytes stop being valid, and how long the invalid sequence is
pub record IsErrorOf (bytes : List ℕ) (e : Utf8Error) : Type 0 where
  pub error : IsUtf8Error bytes (valid_up_to e) (error_len e)

-- the bytes are invalid, and the error says where; or they are valid, and allocation failed
abbrev pub IsUtf8Refusal : List ℕ → FromUtf8Error → Type 0
IsUtf8Refusal bytes (Utf8 valid_up_to error_len) = ¬ (IsUtf8 bytes) × IsUtf8Error bytes valid_up_to error_len
IsUtf8Refusal bytes (Reserve _) = IsUtf8 bytes × (INLINE_CAPACITY < length bytes)

-- all bytes of a reader were consumed and are invalid; or some were consumed, and allocation failed before validation
abbrev pub IsUtf8BufRefusal : List ℕ → List ℕ → FromUtf8Error → Type 0
IsUtf8BufRefusal bytes left (Utf8 valid_up_to error_len) = ¬ (IsUtf8 bytes) × IsUtf8Error bytes valid_up_to error_len
    × (left ≡ [])
IsUtf8BufRefusal bytes left (Reserve _) = (INLINE_CAPACITY < length bytes) × IsSuffixOf left bytes

-- the units are invalid; or they are valid, and allocation failed
abbrev pub IsUtf16Refusal : List ℕ → FromUtf16Error → Type 0
IsUtf16Refusal units (Utf16 _) = ¬ (IsUtf16 units)
IsUtf16Refusal units (NoRoom _) = (text : List ℕ) × UnitsEncode units text × (INLINE_CAPACITY < size text)

-- the bytes are this text's units, in pairs
abbrev pub PairsEncode : ByteOrder → List ℕ → List ℕ → Type 0
PairsEncode order bytes text = ArePairs bytes × UnitsEncode (units_of order bytes) text

-- the same of pairs of bytes
abbrev pub IsUtf16BytesRefusal : ByteOrder → List ℕ → FromUtf16Error → Type 0
IsUtf16BytesRefusal order bytes (Utf16 _) = ¬ (IsUtf16Bytes order bytes)
IsUtf16BytesRefusal order bytes (NoRoom _) = (text : List ℕ) × PairsEncode order bytes text × (INLINE_CAPACITY < size text)
