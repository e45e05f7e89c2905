-- Texts of at most 24 bytes, packed into 24 bytes with their length.
use Rattle.std.specs.Prelude.{◌≡◌, ℕ, ◌+◌, ◌-◌, ◌≤◌, ◌⊎◌, List, [], ◌∷◌, ◌++◌, length, take, replicate, slice_index}
use Rattle.std.specs.Prelude.{nat_lt, if◌then◌else◌}
use Rattle.compact_repr.specs.declared.inline.TheConstants.{INLINE_CAPACITY}
use Rattle.compact_text.specs.Text.{size, utf8, text_of, IsText}

-- The bytes pack t: a t of 24 bytes is all of them; a shorter one is at the front, and the last byte is 192 and its
-- size. Those between are unspecified. No text ends in a byte above 191, so the last byte decides.
pub record IsPackedFor (bytes t : List ℕ) : Type 0 where
  pub text : IsText t
  pub stands : ((size t ≡ INLINE_CAPACITY) × (bytes ≡ utf8 t)) ⊎ ((size t ≤ 23) × (take (size t) bytes ≡ utf8 t) × (slice_index bytes 23 ≡ 192 + size t))

-- the length that the last byte encodes
abbrev pub packed_len : List ℕ → ℕ
packed_len bytes = if nat_lt (slice_index bytes 23) 192 then INLINE_CAPACITY else slice_index bytes 23 - 192

-- the packed text, if there is one
abbrev pub packed_text : List ℕ → List ℕ
packed_text bytes = text_of (take (packed_len bytes) bytes)

-- the bytes of a text, zeros and the length
abbrev pub packed_bytes : List ℕ → List ℕ
packed_bytes bytes = if nat_lt (length bytes) INLINE_CAPACITY then bytes ++ replicate (23 - length bytes) 0 ++ (192 + length bytes) ∷ [] else bytes
