-- Worked examples of the definitions: values from the Unicode Standard and from another decoder.
use Rattle.std.proofs.Common.{◌≡◌, ℕ, List, [], ◌∷◌, false, Some, None, IsUtf8, refl, sym, ◌∙◌, inl, inr, arith}
use Rattle.std.specs.Char.{encode_utf8}
use Rattle.std.specs.Char.Utf16.{utf16_chars}
use Rattle.std.specs.List.{flat_map}
use Rattle.std.specs.Str.{chars, is_utf8}
use Rattle.std.specs.Str.Lossy.{utf8_valid_len, utf8_error_len, utf8_lossy}
use Rattle.std.proofs.lemmas.Bool.{false≢true}
use Rattle.std.proofs.lemmas.Str.{is_utf8-from_IsUtf8}
use Rattle.compact_codec.specs.declared.utf16_bytes.ByteOrder.TheVariants.{LittleEndian, BigEndian}
use Rattle.compact_text.specs.Text.{utf8, text_of}
use Rattle.compact_codec.specs.Utf8Table.{IsWellFormedSequence}
use Rattle.compact_codec.specs.InvalidSequence.{IsUtf8Error}
use Rattle.compact_codec.specs.Utf8Text.{BytesEncode, utf8_lossy_text, IsUtf8LossyText, BeginsWithChunk}
use Rattle.compact_codec.specs.Utf16Text.{utf16, UnitsEncode, IsUtf16, IsUtf16Step, utf16_lossy_text}
use Rattle.compact_codec.specs.Utf16Bytes.{unit_bytes, units_of, IsUtf16Bytes, utf16_bytes_lossy_text}
use Rattle.compact_codec.proofs.Beginnings.{begins_well_formed, two_from}
use Rattle.compact_codec.proofs.InvalidSequenceLemmas.{error_is}
use Rattle.compact_codec.proofs.Utf8TextLemmas.{utf8_lossy_text_is, invalid_chunk}
use Rattle.compact_codec.proofs.Utf16TextLemmas.{unpaired_is_no_text}

-- the four characters by which the Standard shows the encoding forms (3.9) and schemes (3.10)
abbrev four_characters : List ℕ
four_characters = 0x4D ∷ 0x430 ∷ 0x4E8C ∷ 0x10302 ∷ []

four_encoded : BytesEncode (0x4D ∷ 0xD0 ∷ 0xB0 ∷ 0xE4 ∷ 0xBA ∷ 0x8C ∷ 0xF0 ∷ 0x90 ∷ 0x8C ∷ 0x82 ∷ []) four_characters
unfolding encode_utf8
four_encoded = (refl, refl)

four_decoded : text_of (0x4D ∷ 0xD0 ∷ 0xB0 ∷ 0xE4 ∷ 0xBA ∷ 0x8C ∷ 0xF0 ∷ 0x90 ∷ 0x8C ∷ 0x82 ∷ []) ≡ four_characters
unfolding chars
four_decoded = refl

four_in_units : UnitsEncode (0x004D ∷ 0x0430 ∷ 0x4E8C ∷ 0xD800 ∷ 0xDF02 ∷ []) four_characters
four_in_units = (refl, refl)

four_in_big_endian : flat_map (unit_bytes BigEndian) (utf16 four_characters)
    ≡ 0x00 ∷ 0x4D ∷ 0x04 ∷ 0x30 ∷ 0x4E ∷ 0x8C ∷ 0xD8 ∷ 0x00 ∷ 0xDF ∷ 0x02 ∷ []
four_in_big_endian = refl

four_in_little_endian : flat_map (unit_bytes LittleEndian) (utf16 four_characters)
    ≡ 0x4D ∷ 0x00 ∷ 0x30 ∷ 0x04 ∷ 0x8C ∷ 0x4E ∷ 0x00 ∷ 0xD8 ∷ 0x02 ∷ 0xDF ∷ []
four_in_little_endian = refl

four_from_big_endian : units_of BigEndian (0x00 ∷ 0x4D ∷ 0x04 ∷ 0x30 ∷ 0x4E ∷ 0x8C ∷ 0xD8 ∷ 0x00 ∷ 0xDF ∷ 0x02 ∷ [])
    ≡ utf16 four_characters
four_from_big_endian = refl

four_from_little_endian : units_of LittleEndian (0x4D ∷ 0x00 ∷ 0x30 ∷ 0x04 ∷ 0x8C ∷ 0x4E ∷ 0x00 ∷ 0xD8 ∷ 0x02 ∷ 0xDF ∷
    []) ≡ utf16 four_characters
four_from_little_endian = refl

-- characters of one to four bytes

utf8_of_e4 : utf8 (0xE4 ∷ []) ≡ 0xC3 ∷ 0xA4 ∷ []
unfolding encode_utf8
utf8_of_e4 = refl

utf16_of_e4 : utf16 (0xE4 ∷ []) ≡ 0x00E4 ∷ []
utf16_of_e4 = refl

utf8_of_204 : utf8 (0x204 ∷ []) ≡ 0xC8 ∷ 0x84 ∷ []
unfolding encode_utf8
utf8_of_204 = refl

utf16_of_204 : utf16 (0x204 ∷ []) ≡ 0x0204 ∷ []
utf16_of_204 = refl

utf8_of_20ac : utf8 (0x20AC ∷ []) ≡ 0xE2 ∷ 0x82 ∷ 0xAC ∷ []
unfolding encode_utf8
utf8_of_20ac = refl

utf16_of_20ac : utf16 (0x20AC ∷ []) ≡ 0x20AC ∷ []
utf16_of_20ac = refl

utf8_of_fffd : utf8 (0xFFFD ∷ []) ≡ 0xEF ∷ 0xBF ∷ 0xBD ∷ []
unfolding encode_utf8
utf8_of_fffd = refl

utf16_of_fffd : utf16 (0xFFFD ∷ []) ≡ 0xFFFD ∷ []
utf16_of_fffd = refl

utf8_of_1d11e : utf8 (0x1D11E ∷ []) ≡ 0xF0 ∷ 0x9D ∷ 0x84 ∷ 0x9E ∷ []
unfolding encode_utf8
utf8_of_1d11e = refl

utf16_of_1d11e : utf16 (0x1D11E ∷ []) ≡ 0xD834 ∷ 0xDD1E ∷ []
utf16_of_1d11e = refl

utf8_of_1f46f : utf8 (0x1F46F ∷ []) ≡ 0xF0 ∷ 0x9F ∷ 0x91 ∷ 0xAF ∷ []
unfolding encode_utf8
utf8_of_1f46f = refl

utf16_of_1f46f : utf16 (0x1F46F ∷ []) ≡ 0xD83D ∷ 0xDC6F ∷ []
utf16_of_1f46f = refl

-- a sequence of the table, and one that is not in it
euro_is_well_formed : IsWellFormedSequence (0xE2 ∷ 0x82 ∷ 0xAC ∷ [])
euro_is_well_formed = inr (inr (inr (inl (
  (omega arith, omega arith),
  ((omega arith, omega arith), ((omega arith, omega arith), tt)),
))))

overlong_is_not : ¬ (IsWellFormedSequence (0xC0 ∷ 0x80 ∷ []))
overlong_is_not well = let leads = (two_from 0xC0 0x80 [] (begins_well_formed (0xC0 ∷ 0x80 ∷ []) well)).0.0 in
    omega arith

-- errors, and lossy texts

no_text : (bs : List ℕ) → is_utf8 bs ≡ false → ¬ (IsUtf8 bs)
no_text bs fails text = false≢true (sym fails ∙ is_utf8-from_IsUtf8 bs text)

error_of_c0_80 : IsUtf8Error (0xC0 ∷ 0x80 ∷ []) 0 (Some 1)
unfolding is_utf8 chars encode_utf8 utf8_valid_len utf8_error_len
error_of_c0_80 = (error_is (0xC0 ∷ 0x80 ∷ []) 0 (Some 1) (no_text (0xC0 ∷ 0x80 ∷ []) refl)).1 (refl, refl)

text_of_c0_80 : IsUtf8LossyText (0xC0 ∷ 0x80 ∷ []) (0xFFFD ∷ 0xFFFD ∷ [])
unfolding utf8_lossy_text is_utf8 chars encode_utf8 utf8_valid_len utf8_error_len utf8_lossy
text_of_c0_80 = (utf8_lossy_text_is (0xC0 ∷ 0x80 ∷ []) (0xFFFD ∷ 0xFFFD ∷ [])).1 refl

error_of_e0_80_80 : IsUtf8Error (0xE0 ∷ 0x80 ∷ 0x80 ∷ []) 0 (Some 1)
unfolding is_utf8 chars encode_utf8 utf8_valid_len utf8_error_len
error_of_e0_80_80 = (error_is (0xE0 ∷ 0x80 ∷ 0x80 ∷ []) 0 (Some 1) (no_text (0xE0 ∷ 0x80 ∷ 0x80 ∷ []) refl)).1
    (refl, refl)

text_of_e0_80_80 : IsUtf8LossyText (0xE0 ∷ 0x80 ∷ 0x80 ∷ []) (0xFFFD ∷ 0xFFFD ∷ 0xFFFD ∷ [])
unfolding utf8_lossy_text is_utf8 chars encode_utf8 utf8_valid_len utf8_error_len utf8_lossy
text_of_e0_80_80 = (utf8_lossy_text_is (0xE0 ∷ 0x80 ∷ 0x80 ∷ []) (0xFFFD ∷ 0xFFFD ∷ 0xFFFD ∷ [])).1 refl

error_of_ed_a0_80 : IsUtf8Error (0xED ∷ 0xA0 ∷ 0x80 ∷ []) 0 (Some 1)
unfolding is_utf8 chars encode_utf8 utf8_valid_len utf8_error_len
error_of_ed_a0_80 = (error_is (0xED ∷ 0xA0 ∷ 0x80 ∷ []) 0 (Some 1) (no_text (0xED ∷ 0xA0 ∷ 0x80 ∷ []) refl)).1
    (refl, refl)

text_of_ed_a0_80 : IsUtf8LossyText (0xED ∷ 0xA0 ∷ 0x80 ∷ []) (0xFFFD ∷ 0xFFFD ∷ 0xFFFD ∷ [])
unfolding utf8_lossy_text is_utf8 chars encode_utf8 utf8_valid_len utf8_error_len utf8_lossy
text_of_ed_a0_80 = (utf8_lossy_text_is (0xED ∷ 0xA0 ∷ 0x80 ∷ []) (0xFFFD ∷ 0xFFFD ∷ 0xFFFD ∷ [])).1 refl

error_of_f4_90_80_80 : IsUtf8Error (0xF4 ∷ 0x90 ∷ 0x80 ∷ 0x80 ∷ []) 0 (Some 1)
unfolding is_utf8 chars encode_utf8 utf8_valid_len utf8_error_len
error_of_f4_90_80_80 = (error_is (0xF4 ∷ 0x90 ∷ 0x80 ∷ 0x80 ∷ []) 0 (Some 1)
    (no_text (0xF4 ∷ 0x90 ∷ 0x80 ∷ 0x80 ∷ []) refl)).1 (refl, refl)

text_of_f4_90_80_80 : IsUtf8LossyText (0xF4 ∷ 0x90 ∷ 0x80 ∷ 0x80 ∷ []) (0xFFFD ∷ 0xFFFD ∷ 0xFFFD ∷ 0xFFFD ∷ [])
unfolding utf8_lossy_text is_utf8 chars encode_utf8 utf8_valid_len utf8_error_len utf8_lossy
text_of_f4_90_80_80 = (utf8_lossy_text_is (0xF4 ∷ 0x90 ∷ 0x80 ∷ 0x80 ∷ []) (0xFFFD ∷ 0xFFFD ∷ 0xFFFD ∷ 0xFFFD ∷ [])).1
    refl

error_of_e1_80_41 : IsUtf8Error (0xE1 ∷ 0x80 ∷ 0x41 ∷ []) 0 (Some 2)
unfolding is_utf8 chars encode_utf8 utf8_valid_len utf8_error_len
error_of_e1_80_41 = (error_is (0xE1 ∷ 0x80 ∷ 0x41 ∷ []) 0 (Some 2) (no_text (0xE1 ∷ 0x80 ∷ 0x41 ∷ []) refl)).1
    (refl, refl)

text_of_e1_80_41 : IsUtf8LossyText (0xE1 ∷ 0x80 ∷ 0x41 ∷ []) (0xFFFD ∷ 0x41 ∷ [])
unfolding utf8_lossy_text is_utf8 chars encode_utf8 utf8_valid_len utf8_error_len utf8_lossy
text_of_e1_80_41 = (utf8_lossy_text_is (0xE1 ∷ 0x80 ∷ 0x41 ∷ []) (0xFFFD ∷ 0x41 ∷ [])).1 refl

error_of_61_e2_82 : IsUtf8Error (0x61 ∷ 0xE2 ∷ 0x82 ∷ []) 1 None
unfolding is_utf8 chars encode_utf8 utf8_valid_len utf8_error_len
error_of_61_e2_82 = (error_is (0x61 ∷ 0xE2 ∷ 0x82 ∷ []) 1 None (no_text (0x61 ∷ 0xE2 ∷ 0x82 ∷ []) refl)).1 (refl, refl)

text_of_61_e2_82 : IsUtf8LossyText (0x61 ∷ 0xE2 ∷ 0x82 ∷ []) (0x61 ∷ 0xFFFD ∷ [])
unfolding utf8_lossy_text is_utf8 chars encode_utf8 utf8_valid_len utf8_error_len utf8_lossy
text_of_61_e2_82 = (utf8_lossy_text_is (0x61 ∷ 0xE2 ∷ 0x82 ∷ []) (0x61 ∷ 0xFFFD ∷ [])).1 refl

error_of_f0_9f : IsUtf8Error (0xF0 ∷ 0x9F ∷ []) 0 None
unfolding is_utf8 chars encode_utf8 utf8_valid_len utf8_error_len
error_of_f0_9f = (error_is (0xF0 ∷ 0x9F ∷ []) 0 None (no_text (0xF0 ∷ 0x9F ∷ []) refl)).1 (refl, refl)

text_of_f0_9f : IsUtf8LossyText (0xF0 ∷ 0x9F ∷ []) (0xFFFD ∷ [])
unfolding utf8_lossy_text is_utf8 chars encode_utf8 utf8_valid_len utf8_error_len utf8_lossy
text_of_f0_9f = (utf8_lossy_text_is (0xF0 ∷ 0x9F ∷ []) (0xFFFD ∷ [])).1 refl

error_of_f0_9f_c8_84 : IsUtf8Error (0xF0 ∷ 0x9F ∷ 0xC8 ∷ 0x84 ∷ []) 0 (Some 2)
unfolding is_utf8 chars encode_utf8 utf8_valid_len utf8_error_len
error_of_f0_9f_c8_84 = (error_is (0xF0 ∷ 0x9F ∷ 0xC8 ∷ 0x84 ∷ []) 0 (Some 2)
    (no_text (0xF0 ∷ 0x9F ∷ 0xC8 ∷ 0x84 ∷ []) refl)).1 (refl, refl)

text_of_f0_9f_c8_84 : IsUtf8LossyText (0xF0 ∷ 0x9F ∷ 0xC8 ∷ 0x84 ∷ []) (0xFFFD ∷ 0x204 ∷ [])
unfolding utf8_lossy_text is_utf8 chars encode_utf8 utf8_valid_len utf8_error_len utf8_lossy
text_of_f0_9f_c8_84 = (utf8_lossy_text_is (0xF0 ∷ 0x9F ∷ 0xC8 ∷ 0x84 ∷ []) (0xFFFD ∷ 0x204 ∷ [])).1 refl

chunk_of_61_e2_82 : BeginsWithChunk (0x61 ∷ 0xE2 ∷ 0x82 ∷ []) (0x61 ∷ []) (0xE2 ∷ 0x82 ∷ []) []
chunk_of_61_e2_82 = (invalid_chunk (0x61 ∷ 0xE2 ∷ 0x82 ∷ []) 1 None error_of_61_e2_82).0

-- the Standard's examples of U+FFFD for maximal subparts (3.9, Tables 3-8 to 3-11)

table_3_8 : utf8_lossy_text (0xC0 ∷ 0xAF ∷ 0xE0 ∷ 0x80 ∷ 0xBF ∷ 0xF0 ∷ 0x81 ∷ 0x82 ∷ 0x41 ∷ [])
    ≡ 0xFFFD ∷ 0xFFFD ∷ 0xFFFD ∷ 0xFFFD ∷ 0xFFFD ∷ 0xFFFD ∷ 0xFFFD ∷ 0xFFFD ∷ 0x41 ∷ []
unfolding utf8_lossy_text is_utf8 chars encode_utf8 utf8_valid_len utf8_error_len utf8_lossy
table_3_8 = refl

table_3_9 : utf8_lossy_text (0xED ∷ 0xA0 ∷ 0x80 ∷ 0xED ∷ 0xBF ∷ 0xBF ∷ 0xED ∷ 0xAF ∷ 0x41 ∷ [])
    ≡ 0xFFFD ∷ 0xFFFD ∷ 0xFFFD ∷ 0xFFFD ∷ 0xFFFD ∷ 0xFFFD ∷ 0xFFFD ∷ 0xFFFD ∷ 0x41 ∷ []
unfolding utf8_lossy_text is_utf8 chars encode_utf8 utf8_valid_len utf8_error_len utf8_lossy
table_3_9 = refl

table_3_10 : utf8_lossy_text (0xF4 ∷ 0x91 ∷ 0x92 ∷ 0x93 ∷ 0xFF ∷ 0x41 ∷ 0x80 ∷ 0xBF ∷ 0x42 ∷ [])
    ≡ 0xFFFD ∷ 0xFFFD ∷ 0xFFFD ∷ 0xFFFD ∷ 0xFFFD ∷ 0x41 ∷ 0xFFFD ∷ 0xFFFD ∷ 0x42 ∷ []
unfolding utf8_lossy_text is_utf8 chars encode_utf8 utf8_valid_len utf8_error_len utf8_lossy
table_3_10 = refl

table_3_11 : utf8_lossy_text (0xE1 ∷ 0x80 ∷ 0xE2 ∷ 0xF0 ∷ 0x91 ∷ 0x92 ∷ 0xF1 ∷ 0xBF ∷ 0x41 ∷ [])
    ≡ 0xFFFD ∷ 0xFFFD ∷ 0xFFFD ∷ 0xFFFD ∷ 0x41 ∷ []
unfolding utf8_lossy_text is_utf8 chars encode_utf8 utf8_valid_len utf8_error_len utf8_lossy
table_3_11 = refl

-- units, and bytes of units
pair_is_text : IsUtf16 (0xD834 ∷ 0xDD1E ∷ [])
pair_is_text = (0x1D11E ∷ [], (refl, refl))

low_surrogate_is_no_text : ¬ (IsUtf16 (0xDC00 ∷ 0xD800 ∷ []))
low_surrogate_is_no_text = unpaired_is_no_text (0xDC00 ∷ 0xD800 ∷ []) (inl (omega arith, omega arith))

high_surrogate_is_no_text : ¬ (IsUtf16 (0xD834 ∷ 0x0041 ∷ []))
high_surrogate_is_no_text = unpaired_is_no_text (0xD834 ∷ 0x0041 ∷ [])
    (inr ((omega arith, omega arith), λ low. let from = low.0 in omega arith))

step_of_pair : IsUtf16Step (0xD834 ∷ 0xDD1E ∷ 0x0041 ∷ []) (Some 0x1D11E) 2
step_of_pair = (refl, omega arith, refl)

step_of_unpaired : IsUtf16Step (0xDC00 ∷ 0x0041 ∷ []) None 1
step_of_unpaired = (inl (omega arith, omega arith), refl)

pair_bytes_are_text : IsUtf16Bytes BigEndian (0xD8 ∷ 0x34 ∷ 0xDD ∷ 0x1E ∷ [])
pair_bytes_are_text = (tt, pair_is_text)

odd_bytes_are_no_text : ¬ (IsUtf16Bytes LittleEndian (0x41 ∷ 0x00 ∷ 0x42 ∷ []))
odd_bytes_are_no_text text = text.0

two_unpaired : utf16_lossy_text (0xDC00 ∷ 0xD800 ∷ []) ≡ 0xFFFD ∷ 0xFFFD ∷ []
unfolding utf16_chars
two_unpaired = refl

unpaired_then_pair : utf16_lossy_text (0xD800 ∷ 0xD834 ∷ 0xDD1E ∷ []) ≡ 0xFFFD ∷ 0x1D11E ∷ []
unfolding utf16_chars
unpaired_then_pair = refl

odd_byte_last : utf16_bytes_lossy_text LittleEndian (0x41 ∷ 0x00 ∷ 0x42 ∷ []) ≡ 0x41 ∷ 0xFFFD ∷ []
unfolding utf16_bytes_lossy_text utf16_chars
odd_byte_last = refl

unpaired_then_odd : utf16_bytes_lossy_text LittleEndian (0x3D ∷ 0xD8 ∷ 0x6F ∷ []) ≡ 0xFFFD ∷ 0xFFFD ∷ []
unfolding utf16_bytes_lossy_text utf16_chars
unpaired_then_odd = refl

unpaired_last : utf16_bytes_lossy_text BigEndian (0xD8 ∷ 0x3D ∷ 0xDC ∷ 0x6F ∷ 0x20 ∷ 0x0D ∷ 0x26 ∷ 0x40 ∷ 0xDE ∷ 0x0F
    ∷ []) ≡ 0x1F46F ∷ 0x200D ∷ 0x2640 ∷ 0xFFFD ∷ []
unfolding utf16_bytes_lossy_text utf16_chars
unpaired_last = refl
