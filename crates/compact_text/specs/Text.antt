-- Characters and texts. A character is a number, a Unicode scalar value (Unicode Standard, 3.9, D76), and a text is a
-- list of characters.
use Rattle.std.specs.Prelude.{◌≡◌, ℕ, ◌+◌, List, [], ◌∷◌, true, map, nat_lt, if◌then◌else◌}
use Rattle.std.specs.Char.{len_utf8, to_ascii_lowercase, to_ascii_uppercase}
use Rattle.std.specs.Str.{encode_utf8_all, all_scalars, chars}

abbrev pub IsText : List ℕ → Type 0
IsText t = all_scalars t ≡ true

-- the length of t in bytes of UTF-8 (Unicode Standard, 3.9, D92, table 3-6): 1 to 4 for each character
abbrev pub size : List ℕ → ℕ
size [] = 0
size (c ∷ cs) = len_utf8 c + size cs

abbrev pub utf8 : List ℕ → List ℕ
utf8 t = encode_utf8_all t

-- the text of the bytes of a `str`
abbrev pub text_of : List ℕ → List ℕ
text_of bytes = chars bytes

-- t with A to Z made lowercase, or a to z uppercase
abbrev pub ascii_lowercase : List ℕ → List ℕ
ascii_lowercase t = map to_ascii_lowercase t

abbrev pub ascii_uppercase : List ℕ → List ℕ
ascii_uppercase t = map to_ascii_uppercase t

-- the bytes that are free where a character is written: one for ASCII, or four, for one store of any other
abbrev pub room_for_char : ℕ → ℕ
room_for_char c = if nat_lt c 128 then 1 else 4

-- U+FFFD, for an invalid sequence
abbrev pub replacement_character : ℕ
replacement_character = 0xFFFD
