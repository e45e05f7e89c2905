-- Bytes as units, two a unit.
use Rattle.std.proofs.Common.{◌↔◌, ◌≡◌, ℕ, zero, suc, ◌+◌, ◌*◌, ◌/◌, ◌%◌, ◌^◌, ◌<◌, ◌≤◌, List, [], ◌∷◌, ◌++◌, map}
use Rattle.std.proofs.Common.{length, take, drop, refl, sym, ap, subst, ◌∙◌, arith, append-nil, length-drop, get_or}
use Rattle.std.proofs.Common.{bit_or}
use Rattle.std.specs.Int.Bits.{or_zero_l, or_zero_r}
use Rattle.std.proofs.lemmas.Nat.{or_block}
use Rattle.std.proofs.lemmas.List.{take-map, drop-map}
use lib.Lanes.{digits_l, number_l}
use Rattle.std.specs.List.{flat_map}
use Rattle.compact_codec.specs.declared.utf16_bytes.ByteOrder.{ByteOrder}
use Rattle.compact_codec.specs.declared.utf16_bytes.ByteOrder.TheVariants.{LittleEndian, BigEndian}
use Rattle.compact_text.specs.Text.{replacement_character}
use Rattle.compact_codec.specs.Utf16Text.{AreUnits, IsUtf16, utf16_lossy_text}
use Rattle.compact_codec.specs.Utf16Bytes.{unit_of, unit_bytes, units_of, ArePairs, odd_byte_text, IsUtf16Bytes}
use Rattle.compact_codec.specs.Utf16Bytes.{utf16_bytes_lossy_text, AreBytes, PairsAreTheUnits}
use Rattle.compact_codec.specs.Utf16Bytes.{Utf16BytesLossyTextIsUnique, Utf16BytesLossyTextOfText}
use Rattle.compact_codec.proofs.Utf16TextLemmas.{utf16_lossy_text_is, utf16_lossy_text_of_text}

-- units and their bytes

unit_of-unit_bytes : (order : ByteOrder) (u : ℕ) (rest : List ℕ)
    → units_of order (unit_bytes order u ++ rest) ≡ u ∷ units_of order rest
unit_of-unit_bytes LittleEndian u rest = let same : u % 256 + u / 256 * 256 ≡ u = omega arith in
    ap (λ v. v ∷ units_of LittleEndian rest) same
unit_of-unit_bytes BigEndian u rest = let same : u / 256 * 256 + u % 256 ≡ u = omega arith in
    ap (λ v. v ∷ units_of BigEndian rest) same

pairs_of_units : (order : ByteOrder) (units : List ℕ) → (units_of order (flat_map (unit_bytes order) units) ≡ units)
    × ArePairs (flat_map (unit_bytes order) units)
pairs_of_units order [] = (refl, tt)
pairs_of_units LittleEndian (u ∷ units) =
    let later = pairs_of_units LittleEndian units in
    (unit_of-unit_bytes LittleEndian u _ ∙ ap (λ l. u ∷ l) later.0, later.1)
pairs_of_units BigEndian (u ∷ units) =
    let later = pairs_of_units BigEndian units in
    (unit_of-unit_bytes BigEndian u _ ∙ ap (λ l. u ∷ l) later.0, later.1)

unit_bytes-unit_of : (order : ByteOrder) (a b : ℕ) → a < 256 → b < 256
    → unit_bytes order (unit_of order a b) ≡ a ∷ b ∷ []
unit_bytes-unit_of LittleEndian a b a_fits b_fits =
    let low : (a + b * 256) % 256 ≡ a = omega arith in
    let high : (a + b * 256) / 256 ≡ b = omega arith in
    λ i. low i ∷ high i ∷ []
unit_bytes-unit_of BigEndian a b a_fits b_fits =
    let high : (a * 256 + b) / 256 ≡ a = omega arith in
    let low : (a * 256 + b) % 256 ≡ b = omega arith in
    λ i. high i ∷ low i ∷ []

AreBytes-first : (a : ℕ) (bytes : List ℕ) → AreBytes (a ∷ bytes) → a < 256
AreBytes-first a bytes all = all 0 0 (omega arith)

AreBytes-rest : (a : ℕ) (bytes : List ℕ) → AreBytes (a ∷ bytes) → AreBytes bytes
AreBytes-rest a bytes all k d within = all (suc k) d (omega arith)

units_of_pairs : (order : ByteOrder) (bytes : List ℕ) → AreBytes bytes → ArePairs bytes
    → flat_map (unit_bytes order) (units_of order bytes) ≡ bytes
units_of_pairs order [] all pairs = refl
units_of_pairs order (a ∷ []) all pairs = absurd pairs
units_of_pairs order (a ∷ b ∷ bytes) all pairs =
    let rest = AreBytes-rest a (b ∷ bytes) all in
    ap (λ l. l ++ flat_map (unit_bytes order) (units_of order bytes))
    (unit_bytes-unit_of order a b (AreBytes-first a (b ∷ bytes) all) (AreBytes-first b bytes rest))
    ∙ ap (λ l. a ∷ b ∷ l) (units_of_pairs order bytes (AreBytes-rest b bytes rest) pairs)

pub pairs_are : PairsAreTheUnits
pairs_are = (pairs_of_units, units_of_pairs)

unit_fits : (order : ByteOrder) (a b : ℕ) → a < 256 → b < 256 → unit_of order a b < 2 ^ 16
unit_fits LittleEndian a b a_fits b_fits = omega arith
unit_fits BigEndian a b a_fits b_fits = omega arith

AreUnits-units_of : (order : ByteOrder) (bytes : List ℕ) → AreBytes bytes → AreUnits (units_of order bytes)
AreUnits-units_of order [] all k d within = absurd (omega arith)
AreUnits-units_of order (a ∷ []) all k d within = absurd (omega arith)
AreUnits-units_of order (a ∷ b ∷ bytes) all zero d within =
    unit_fits order a b (AreBytes-first a (b ∷ bytes) all) (AreBytes-first b bytes (AreBytes-rest a (b ∷ bytes) all))
AreUnits-units_of order (a ∷ b ∷ bytes) all (suc k) d within =
    AreUnits-units_of order bytes (AreBytes-rest b bytes (AreBytes-rest a (b ∷ bytes) all)) k d (omega arith)

pub utf16_bytes_lossy_text_is : Utf16BytesLossyTextIsUnique
unfolding utf16_bytes_lossy_text
utf16_bytes_lossy_text_is order bytes text all =
    let units = units_of order bytes in
    let fits = AreUnits-units_of order bytes all in (
      λ (prefix, is, same). same ∙ ap (λ t. t ++ odd_byte_text bytes) ((utf16_lossy_text_is units prefix fits).0 is),
      λ same. (utf16_lossy_text units, (utf16_lossy_text_is units (utf16_lossy_text units) fits).1 refl, same),
    )

-- pairs and units in step

pub take_pairs : (order : ByteOrder) (n m : ℕ) (bytes : List ℕ) → m ≡ 2 * n → n ≤ length (units_of order bytes)
    → (m ≤ length bytes) × ArePairs (take m bytes) × (units_of order (take m bytes) ≡ take n (units_of order bytes))
    × (units_of order (drop m bytes) ≡ drop n (units_of order bytes))
    × (odd_byte_text (drop m bytes) ≡ odd_byte_text bytes)
take_pairs order zero zero bytes double within = (omega arith, tt, refl, refl, refl)
take_pairs order zero (suc m) bytes double within = absurd (omega arith)
take_pairs order (suc n) zero bytes double within = absurd (omega arith)
take_pairs order (suc n) (suc zero) bytes double within = absurd (omega arith)
take_pairs order (suc n) (suc (suc m)) [] double within = absurd (omega arith)
take_pairs order (suc n) (suc (suc m)) (a ∷ []) double within = absurd (omega arith)
take_pairs order (suc n) (suc (suc m)) (a ∷ b ∷ bytes) double within =
    let later = take_pairs order n m bytes (omega arith) (omega arith) in
    let fits = later.0 in
    (omega arith, later.1, ap (λ l. unit_of order a b ∷ l) later.2, later.3, later.4)

-- the bytes of a text's own units

odd_byte_text-pairs : (bytes : List ℕ) → ArePairs bytes → odd_byte_text bytes ≡ []
odd_byte_text-pairs [] pairs = refl
odd_byte_text-pairs (a ∷ []) pairs = absurd pairs
odd_byte_text-pairs (a ∷ b ∷ bytes) pairs = odd_byte_text-pairs bytes pairs

pub utf16_bytes_lossy_text_of_text : Utf16BytesLossyTextOfText
unfolding utf16_bytes_lossy_text
utf16_bytes_lossy_text_of_text order bytes text pairs is =
    ap (λ t. utf16_lossy_text (units_of order bytes) ++ t) (odd_byte_text-pairs bytes pairs) ∙ append-nil _
    ∙ utf16_lossy_text_of_text (units_of order bytes) text is

-- the units by place

pub units_count : (order : ByteOrder) (bytes : List ℕ) → length (units_of order bytes) ≡ length bytes / 2
units_count order [] = refl
units_count order (a ∷ []) = refl
units_count order (a ∷ b ∷ bytes) = let later = units_count order bytes in omega arith

pub unit_by_place : (order : ByteOrder) (bytes : List ℕ) (i j k : ℕ) → j ≡ 2 * i → k ≡ j + 1 → k < length bytes
    → unit_of order (get_or bytes j 0) (get_or bytes k 0) ≡ get_or (units_of order bytes) i 0
unit_by_place order [] i j k double next within = absurd (omega arith)
unit_by_place order (a ∷ []) i j k double next within = absurd (omega arith)
unit_by_place order (a ∷ b ∷ bytes) zero zero zero double next within = absurd (omega arith)
unit_by_place order (a ∷ b ∷ bytes) zero zero (suc zero) double next within = refl
unit_by_place order (a ∷ b ∷ bytes) zero zero (suc (suc k)) double next within = absurd (omega arith)
unit_by_place order (a ∷ b ∷ bytes) zero (suc j) k double next within = absurd (omega arith)
unit_by_place order (a ∷ b ∷ bytes) (suc i) zero k double next within = absurd (omega arith)
unit_by_place order (a ∷ b ∷ bytes) (suc i) (suc zero) k double next within = absurd (omega arith)
unit_by_place order (a ∷ b ∷ bytes) (suc i) (suc (suc j)) zero double next within = absurd (omega arith)
unit_by_place order (a ∷ b ∷ bytes) (suc i) (suc (suc j)) (suc zero) double next within = absurd (omega arith)
unit_by_place order (a ∷ b ∷ bytes) (suc i) (suc (suc j)) (suc (suc k)) double next within =
    unit_by_place order bytes i j k (omega arith) (omega arith) (omega arith)

get_or_same : (xs : List ℕ) (k d e : ℕ) → k < length xs → get_or xs k d ≡ get_or xs k e
get_or_same [] k d e within = absurd (omega arith)
get_or_same (x ∷ xs) zero d e within = refl
get_or_same (x ∷ xs) (suc k) d e within = get_or_same xs k d e (omega arith)

bytes_fit : (bytes : List ℕ) → ((i : ℕ) → get_or bytes i 0 < 256) → AreBytes bytes
bytes_fit bytes fit k d within = subst (λ x. x < 256) (get_or_same bytes k 0 d within) (fit k)

-- 16 bits of the number that the bytes make, from the lowest on, are the units
digits_are : (n m : ℕ) (bytes : List ℕ) → m ≡ 2 * n → m ≤ length bytes → AreBytes bytes
    → digits_l 65536 n (number_l 256 (take m bytes)) ≡ take n (units_of LittleEndian bytes)
digits_are zero m bytes double within all = refl
digits_are (suc n) zero bytes double within all = absurd (omega arith)
digits_are (suc n) (suc zero) bytes double within all = absurd (omega arith)
digits_are (suc n) (suc (suc m)) [] double within all = absurd (omega arith)
digits_are (suc n) (suc (suc m)) (a ∷ []) double within all = absurd (omega arith)
digits_are (suc n) (suc (suc m)) (a ∷ b ∷ bytes) double within all =
    let rest = AreBytes-rest a (b ∷ bytes) all in
    let number = number_l 256 (take m bytes) in
    let a_fits = AreBytes-first a (b ∷ bytes) all in
    let b_fits = AreBytes-first b bytes rest in
    let low : (a + 256 * (b + 256 * number)) % 65536 ≡ a + b * 256 = omega (arith, a_fits, b_fits) in
    let high : (a + 256 * (b + 256 * number)) / 65536 ≡ number = omega (arith, a_fits, b_fits) in
    λ i. low i ∷ (ap (digits_l 65536 n) high
    ∙ digits_are n m bytes (omega arith) (omega arith) (AreBytes-rest b bytes rest)) i

AreBytes-drop : (n : ℕ) (bytes : List ℕ) → AreBytes bytes → AreBytes (drop n bytes)
AreBytes-drop zero bytes all = all
AreBytes-drop (suc n) [] all = all
AreBytes-drop (suc n) (b ∷ bytes) all = AreBytes-drop n bytes (AreBytes-rest b bytes all)

pub low_block : (bytes : List ℕ) (at : ℕ) → ((i : ℕ) → get_or bytes i 0 < 256)
    → at + 16 ≤ length (units_of LittleEndian bytes)
    → digits_l 65536 16 (number_l 256 (take 32 (drop (2 * at) bytes))) ≡ take 16 (drop at (units_of LittleEndian bytes))
low_block bytes at fit within =
    let whole = units_count LittleEndian bytes in
    let pairs = take_pairs LittleEndian at (2 * at) bytes refl (omega arith) in
    let long : 32 ≤ length (drop (2 * at) bytes) = omega (arith, length-drop (2 * at) bytes, whole, within) in
    digits_are 16 32 (drop (2 * at) bytes) refl long (AreBytes-drop (2 * at) bytes (bytes_fit bytes fit))
    ∙ ap (take 16) pairs.3

-- the two bytes of a unit change places
abbrev pub swapped : ℕ → ℕ
swapped u = bit_or (u * 256 % 65536) (u / 256)

swapped_unit : (a b : ℕ) → a < 256 → b < 256 → swapped (a + b * 256) ≡ a * 256 + b
swapped_unit a b a_fits b_fits =
    let high : (a + b * 256) * 256 % 65536 ≡ a * 256 = omega arith in
    let low : (a + b * 256) / 256 ≡ b = omega arith in
    let first : a * 256 ≡ a * 2 ^ 8 + 0 = omega arith in
    let second : b ≡ 0 * 2 ^ 8 + b = omega arith in
    let parts = or_block 8 a 0 0 b (omega arith) (omega (arith, b_fits)) in
    (λ i. bit_or (high i) (low i)) ∙ (λ i. bit_or (first i) (second i)) ∙ omega (arith, parts, or_zero_r a, or_zero_l b)

swapped_units : (bytes : List ℕ) → AreBytes bytes → map swapped (units_of LittleEndian bytes) ≡ units_of BigEndian bytes
swapped_units [] all = refl
swapped_units (a ∷ []) all = refl
swapped_units (a ∷ b ∷ bytes) all =
    let rest = AreBytes-rest a (b ∷ bytes) all in
    let one = swapped_unit a b (AreBytes-first a (b ∷ bytes) all) (AreBytes-first b bytes rest) in
    λ i. one i ∷ swapped_units bytes (AreBytes-rest b bytes rest) i

pub high_block : (bytes : List ℕ) (at : ℕ) → ((i : ℕ) → get_or bytes i 0 < 256)
    → at + 16 ≤ length (units_of BigEndian bytes)
    → map swapped (digits_l 65536 16 (number_l 256 (take 32 (drop (2 * at) bytes))))
    ≡ take 16 (drop at (units_of BigEndian bytes))
high_block bytes at fit within =
    let low = units_of LittleEndian bytes in
    ap (map swapped) (low_block bytes at fit
    (omega (arith, within, units_count BigEndian bytes, units_count LittleEndian bytes)))
    ∙ sym (take-map swapped 16 (drop at low)) ∙ ap (take 16) (sym (drop-map swapped at low))
    ∙ ap (λ l. take 16 (drop at l)) (swapped_units bytes (bytes_fit bytes fit))

-- pairs have an even number of bytes
pub pairs_if_even : (bytes : List ℕ) → length bytes % 2 ≡ 0 → ArePairs bytes
pairs_if_even [] even = tt
pairs_if_even (a ∷ []) even = absurd (omega arith)
pairs_if_even (a ∷ b ∷ bytes) even = pairs_if_even bytes (omega arith)

pub even_if_pairs : (bytes : List ℕ) → ArePairs bytes → length bytes % 2 ≡ 0
even_if_pairs [] pairs = refl
even_if_pairs (a ∷ []) pairs = absurd pairs
even_if_pairs (a ∷ b ∷ bytes) pairs = let later = even_if_pairs bytes pairs in omega arith

-- pairs encode a text if their units do
pub pairs_encode : (order : ByteOrder) (bytes units : List ℕ) → length bytes % 2 ≡ 0 → units_of order bytes ≡ units
    → IsUtf16 units ↔ IsUtf16Bytes order bytes
pairs_encode order bytes units even same =
    (λ text. (pairs_if_even bytes even, subst IsUtf16 (sym same) text), λ (pairs, text). subst IsUtf16 same text)

-- the lossy text of bytes is that of their units, and U+FFFD for an odd last byte
pub bytes_text : (order : ByteOrder) (bytes : List ℕ)
    → utf16_bytes_lossy_text order bytes ≡ utf16_lossy_text (units_of order bytes) ++ odd_byte_text bytes
unfolding utf16_bytes_lossy_text
bytes_text order bytes = refl

pub even_bytes_text : (order : ByteOrder) (bytes : List ℕ) → length bytes % 2 ≡ 0
    → utf16_bytes_lossy_text order bytes ≡ utf16_lossy_text (units_of order bytes)
even_bytes_text order bytes even =
    bytes_text order bytes ∙ ap (λ t. utf16_lossy_text (units_of order bytes) ++ t)
    (odd_byte_text-pairs bytes (pairs_if_even bytes even))
    ∙ append-nil _

odd_byte_text-odd : (bytes : List ℕ) → (length bytes % 2 ≡ 0 → ⊥) → odd_byte_text bytes ≡ replacement_character ∷ []
odd_byte_text-odd [] odd = absurd (odd refl)
odd_byte_text-odd (a ∷ []) odd = refl
odd_byte_text-odd (a ∷ b ∷ bytes) odd = odd_byte_text-odd bytes (λ even. odd (omega arith))

pub odd_bytes_text : (order : ByteOrder) (bytes : List ℕ) → (length bytes % 2 ≡ 0 → ⊥)
    → utf16_bytes_lossy_text order bytes ≡ utf16_lossy_text (units_of order bytes) ++ (replacement_character ∷ [])
odd_bytes_text order bytes odd =
    bytes_text order bytes ∙ ap (λ t. utf16_lossy_text (units_of order bytes) ++ t) (odd_byte_text-odd bytes odd)
