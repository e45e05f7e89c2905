-- Worked examples of the wire form.
use Rattle.std.proofs.Common.{◌≡◌, ◌∷◌, [], take, refl, arith}
use Rattle.std.specs.Prelude.{flat_map, replicate}
use lib.Utf8.{encode}
use Rattle.compact_ext.specs.Wire.{wire, claimed_len, IsUnfinished, next_room}

-- `"Hi"`, `""` and `"€"`
example-short : wire (0x48 ∷ 0x69 ∷ []) ≡ 0x02 ∷ 0x00 ∷ 0x00 ∷ 0x00 ∷ 0x48 ∷ 0x69 ∷ []
unfolding encode
example-short = refl

example-empty : wire [] ≡ 0x00 ∷ 0x00 ∷ 0x00 ∷ 0x00 ∷ []
example-empty = refl

example-three_bytes : wire (0x20AC ∷ []) ≡ 0x03 ∷ 0x00 ∷ 0x00 ∷ 0x00 ∷ 0xE2 ∷ 0x82 ∷ 0xAC ∷ []
unfolding encode
example-three_bytes = refl

-- the forms of `"a"`, `""` and `"Hi"` in sequence
example-bytes : flat_map wire ((0x61 ∷ []) ∷ [] ∷ (0x48 ∷ 0x69 ∷ []) ∷ [])
    ≡ 0x01 ∷ 0x00 ∷ 0x00 ∷ 0x00 ∷ 0x61 ∷ 0x00 ∷ 0x00 ∷ 0x00 ∷ 0x00 ∷ 0x02 ∷ 0x00 ∷ 0x00 ∷ 0x00 ∷ 0x48 ∷ 0x69 ∷ []
unfolding encode
example-bytes = refl

-- 55 times `a`, and 20 times `€`, which are 60 bytes
example-long : take 5 (wire (replicate 55 0x61)) ≡ 0x37 ∷ 0x00 ∷ 0x00 ∷ 0x00 ∷ 0x61 ∷ []
unfolding encode
example-long = refl

example-sixty_bytes : take 4 (wire (replicate 20 0x20AC)) ≡ 0x3C ∷ 0x00 ∷ 0x00 ∷ 0x00 ∷ []
example-sixty_bytes = refl

-- the greatest length of four bytes, and one past the first allocation
example-greatest : claimed_len (0xFF ∷ 0xFF ∷ 0xFF ∷ 0xFF ∷ 0x61 ∷ []) ≡ 4294967295
example-greatest = refl

example-past_room : claimed_len (0x01 ∷ 0x00 ∷ 0x10 ∷ 0x00 ∷ []) ≡ 1048577
example-past_room = refl

-- two bytes of a length, and one byte of a text of two; the whole form is finished
example-no_length : IsUnfinished (0x02 ∷ 0x00 ∷ [])
example-no_length long = absurd (omega (arith, long))

example-half : IsUnfinished (0x02 ∷ 0x00 ∷ 0x00 ∷ 0x00 ∷ 0x48 ∷ [])
example-half long = omega arith

example-whole : ¬ IsUnfinished (0x02 ∷ 0x00 ∷ 0x00 ∷ 0x00 ∷ 0x48 ∷ 0x69 ∷ [])
example-whole cut = absurd (omega (arith, cut (omega arith)))

-- the room for the greatest length doubles, up to the length
example-first_room : next_room 0 4294967295 ≡ 1048576
example-first_room = refl

example-second_room : next_room 1048576 4294967295 ≡ 2097152
example-second_room = refl

example-last_room : next_room 2147483648 4294967295 ≡ 4294967295
example-last_room = refl

example-one_more : next_room 1048576 1048577 ≡ 1048577
example-one_more = refl

example-small_room : next_room 0 55 ≡ 55
example-small_room = refl
