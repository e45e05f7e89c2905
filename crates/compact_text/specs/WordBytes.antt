-- Words of eight bytes.
use Rattle.std.specs.Prelude.{ℕ, ◌+◌, ◌*◌, List, [], ◌∷◌}
use Rattle.std.specs.Int.{to_le_bytes, w64}

-- the number of little-endian bytes
abbrev pub le_number : List ℕ → ℕ
le_number [] = 0
le_number (byte ∷ bytes) = le_number bytes * 256 + byte

-- the eight bytes of a word, little-endian
unfoldable pub word_bytes : ℕ → List ℕ
word_bytes word = to_le_bytes w64 word
