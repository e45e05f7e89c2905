-- Units at the front of a block that become characters of one width.
use Rattle.std.proofs.Common.{◌≡◌, ℕ, zero, suc, ◌+◌, ◌-◌, ◌*◌, ◌/◌, ◌%◌, ◌^◌, ◌<◌, ◌≤◌, Bool, true, false, cond, eqb}
use Rattle.std.proofs.Common.{leb, ◌||◌, List, [], ◌∷◌, ◌++◌, map, length, take, drop, get_or, replicate, refl}
use Rattle.std.proofs.Common.{sym, ap, subst, ◌∙◌, arith, w16, IsUtf8, append_assoc, take-append-drop, length-drop, drop-drop}
use Rattle.std.proofs.Common.{bit_and, bit_or, Fits, not}
use Rattle.std.proofs.Math.Seq.{take-append-add}
use Rattle.std.specs.Char.{IsScalar}
use Rattle.std.specs.List.{position_or_len, prefix_len, flat_map}
use Rattle.std.proofs.lemmas.Bool.{and_from}
use Rattle.std.proofs.lemmas.Nat.{le_or_l, le_or_r}
use Rattle.std.proofs.lemmas.Nat.Bits.{and_high}
use Rattle.std.proofs.lemmas.List.{length-map, take-take, length-take-le}
use Rattle.std.proofs.lemmas.Slice.{take-put_mid}
use Rattle.std.proofs.lemmas.Nat.{and_mask}
use Rattle.std.proofs.lemmas.Simd.{tops_compared, zip2_splat_left, mask_l-mod, first_set_mask_l, put_chunk_whole}
use Rattle.std.proofs.lemmas.Simd.{zip2_of_maps, map-map}
use Rattle.std.proofs.lemmas.Str.{chars-append, chars-encodes, IsUtf8-append}
use Rattle.std.proofs.lemmas.List.Sums.{prefix_len-le-length}
use Rattle.compact_repr.specs.Text.{text_of}
use Rattle.compact_text.proofs.Encodings.{encode_one, encode_two, encode_three}
use Rattle.compact_codec.specs.Utf16Text.{utf16_lossy_text}
use Rattle.compact_str.proofs.CharacterWrites.{own_step}
use lib.Count.{count_trailing_zeros}
use lib.Lanes.{fold_l, zip2, mask_l, top, put_chunk, Each1, number_l, digits_l, pick_l}
use lib.Utf8.{low_scalar, scalars, encodes}
use borrow.Rule.Slice.PartMut.{mid_of, put_mid}

-- a bit for each unit that passes a test
pub ascii_mask : (xs : List ℕ) → length xs ≡ 16
    → mask_l (map (top 15) (zip2 (λ a b. cond (leb a b) (2 ^ 16 - 1) 0) (replicate 16 128) xs)) % 2 ^ 64
    ≡ mask_l (map (leb 128) xs)
ascii_mask xs long =
    ap (λ l. mask_l l % 2 ^ 64) (tops_compared w16 leb (replicate 16 128) xs ∙ zip2_splat_left leb 128 16 xs long)
    ∙ mask_l-mod (map (leb 128) xs) 64 (omega (arith, length-map xs (leb 128), long))

-- a bit for each unit that passes one of two tests
either : (x y : Bool) → top 15 (bit_or (cond x (2 ^ 16 - 1) 0) (cond y (2 ^ 16 - 1) 0)) ≡ (x || y)
either false false = refl
either false true = refl
either true false = refl
either true true = refl

pub either_mask : (s t : ℕ → Bool) (xs : List ℕ) {ms ns : List ℕ} → length xs ≤ 64
    → ms ≡ map (λ u. cond (s u) (2 ^ 16 - 1) 0) xs → ns ≡ map (λ u. cond (t u) (2 ^ 16 - 1) 0) xs
    → mask_l (map (top 15) (zip2 bit_or ms ns)) % 2 ^ 64 ≡ mask_l (map (λ u. s u || t u) xs)
either_mask s t xs few first second =
    ap (λ l. mask_l (map (top 15) l) % 2 ^ 64) (zip2_of_maps bit_or _ _ xs first second)
    ∙ ap (λ l. mask_l l % 2 ^ 64) (map-map (top 15) _ xs ∙ (λ i. map (λ u. either (s u) (t u) i) xs))
    ∙ mask_l-mod (map (λ u. s u || t u) xs) 64 (omega (arith, length-map xs (λ u. s u || t u)))

-- the first four units have no bit from 128 on
or_grows : (all : ℕ) (xs : List ℕ) → all ≤ fold_l bit_or all xs
or_grows all [] = omega arith
or_grows all (x ∷ xs) = omega (arith, le_or_l all x, or_grows (bit_or all x) xs)

pub first_ascii : (block masks : List ℕ) → length block ≡ 16 → Each1 (Fits w16) block
    → fold_l bit_or 0 (zip2 bit_and block (0xFF80 ∷ masks)) ≡ 0 → get_or block 0 0 < 128
first_ascii [] masks long fits none = absurd (omega arith)
first_ascii (a ∷ rest) masks long fits none =
    let low = bit_and a 0xFF80 in
    let in_unit : a < 2 ^ 16 = fits.0.fits in
    omega (arith, in_unit, and_high a 9 7, le_or_r 0 low, or_grows (bit_or 0 low) (zip2 bit_and rest masks), none)

-- the units before the first that passes a test
pub first_of : (p : ℕ → Bool) (xs : List ℕ) (mask n : ℕ) → length xs ≡ 16 → mask ≡ mask_l (map p xs)
    → n ≡ cond (eqb mask 0) 16 (count_trailing_zeros 64 mask) → n ≡ position_or_len p xs
first_of p xs mask n long is counted = counted
    ∙ ap (λ m. cond (eqb m 0) 16 (count_trailing_zeros 64 m)) is ∙ first_set_mask_l p xs 16 long (omega arith)

front_more : (P : ℕ → Type 0) (x n : ℕ) (xs : List ℕ) (b : Bool) → (b ≡ false → P x) → Each1 P (take n xs)
    → Each1 P (take (cond (not b) (1 + n) 0) (x ∷ xs))
front_more P x n xs true this rest = tt
front_more P x n xs false this rest = let next : 1 + n ≡ suc n = omega arith in rw next (this refl, rest)

front_of : (p : ℕ → Bool) (P : ℕ → Type 0) → ((u : ℕ) → p u ≡ false → P u) → (xs : List ℕ)
    → Each1 P (take (position_or_len p xs) xs)
front_of p P each [] = tt
front_of p P each (x ∷ xs) = front_more P x (position_or_len p xs) xs (p x) (each x) (front_of p P each xs)

pub front_has : (p : ℕ → Bool) (P : ℕ → Type 0) → ((u : ℕ) → p u ≡ false → P u) → (xs : List ℕ) (n : ℕ) → n ≡ position_or_len p xs → Each1 P (take n xs)
front_has p P each xs n counted = subst (λ k. Each1 P (take k xs)) (sym counted) (front_of p P each xs)

-- a block whose first unit does not pass has some before
pub count_some : (p : ℕ → Bool) (block : List ℕ) (n : ℕ) → length block ≡ 16 → p (get_or block 0 0) ≡ false → n ≡ position_or_len p block
    → (0 < n) × (n ≤ 16)
count_some p [] n long fails counted = absurd (omega arith)
count_some p (a ∷ rest) n long fails counted =
    let more = prefix_len (λ u. not (p u)) rest in
    let one : prefix_len (λ u. not (p u)) (a ∷ rest) ≡ 1 + more = ap (λ t. cond (not t) (1 + more) 0) fails in
    (omega (arith, counted, one), omega (arith, counted, long, prefix_len-le-length (λ u. not (p u)) (a ∷ rest)))

-- a vector is stored, of which the first m bytes count
pub block_after : (row bytes : List ℕ) (at k m : ℕ) → k ≡ length bytes → at + k ≤ length row → m ≤ k
    → take (at + m) (put_mid at k row (put_chunk 0 (mid_of at k row) bytes)) ≡ take at row ++ take m bytes
block_after row bytes at k m full room few =
    let held : length (mid_of at k row) ≡ length bytes =
    length-take-le k (drop at row) (omega (arith, length-drop at row)) ∙ full in
    let written : take (at + k) (put_mid at k row bytes) ≡ take at row ++ bytes =
    take-put_mid at k row bytes (at + k) (omega arith) (omega arith) in
    ap (λ l. take (at + m) (put_mid at k row l)) (put_chunk_whole (mid_of at k row) bytes held)
    ∙ sym (take-take (at + m) (at + k) (put_mid at k row bytes) (omega arith)) ∙ ap (take (at + m)) written
    ∙ ap (λ l. take (l + m) (take at row ++ bytes)) (sym (length-take-le at row (omega arith)))
    ∙ take-append-add (take at row) bytes m

-- units that are characters
abbrev pub IsOwn : ℕ → Type 0
IsOwn u = IsScalar u × (u < 2 ^ 16)

pub low_own : (u : ℕ) → u < 2048 → IsOwn u
low_own u low = (low_scalar u (omega arith), omega arith)

-- their bytes
pub ascii_front : (n : ℕ) (xs : List ℕ) → Each1 (λ u. u < 128) (take n xs)
    → take n (map (λ u. u % 128) xs) ≡ encodes (take n xs)
ascii_front zero xs all = refl
ascii_front (suc n) [] all = refl
ascii_front (suc n) (x ∷ xs) all =
    let low = all.0 in
    let same : x % 128 ≡ x = omega arith in
    (λ i. same i ∷ ascii_front n xs all.1 i) ∙ ap (λ l. l ++ encodes (take n xs)) (sym (encode_one x low))

pub two_front : (n m : ℕ) (xs : List ℕ) → m ≡ 2 * n → Each1 (λ u. (128 ≤ u) × (u < 2048)) (take n xs)
    → take m (flat_map (λ u. (192 + (u / 64) % 32) ∷ (128 + u % 64) ∷ []) xs) ≡ encodes (take n xs)
two_front zero zero xs double all = refl
two_front zero (suc m) xs double all = absurd (omega arith)
two_front (suc n) zero xs double all = absurd (omega arith)
two_front (suc n) (suc zero) xs double all = absurd (omega arith)
two_front (suc n) (suc (suc m)) [] double all = refl
two_front (suc n) (suc (suc m)) (x ∷ xs) double all =
    let first : 192 + (x / 64) % 32 ≡ 192 + x / 64 = omega (arith, all.0.1) in
    (λ i. first i ∷ (128 + x % 64) ∷ two_front n m xs (omega arith) all.1 i)
    ∙ ap (λ l. l ++ encodes (take n xs)) (sym (encode_two x all.0.0 all.0.1))

-- the bytes of each lane, the lower one first
abbrev two_word : ℕ → ℕ
two_word u = ((32960 + bit_and (u / 64) 31) % 65536 + (bit_and u 63 * 256) % 65536) % 65536

pub two_digits : (xs : List ℕ) (k : ℕ) → k ≡ 2 * length xs → digits_l 256 k (number_l 65536 (map two_word xs))
    ≡ flat_map (λ u. (192 + (u / 64) % 32) ∷ (128 + u % 64) ∷ []) xs
two_digits [] zero double = refl
two_digits [] (suc k) double = absurd (omega arith)
two_digits (x ∷ xs) zero double = absurd (omega arith)
two_digits (x ∷ xs) (suc zero) double = absurd (omega arith)
two_digits (x ∷ xs) (suc (suc k)) double =
    let number = number_l 65536 (map two_word xs) in
    let low = and_mask (x / 64) 5 in
    let high = and_mask x 6 in
    let word : two_word x ≡ 192 + (x / 64) % 32 + 256 * (128 + x % 64) = omega (arith, low, high) in
    let first : (two_word x + 65536 * number) % 256 ≡ 192 + (x / 64) % 32 = omega (arith, word) in
    let second : ((two_word x + 65536 * number) / 256) % 256 ≡ 128 + x % 64 = omega (arith, word) in
    let rest : ((two_word x + 65536 * number) / 256) / 256 ≡ number = omega (arith, word) in
    λ i. first i ∷ second i ∷ (ap (digits_l 256 k) rest ∙ two_digits xs k (omega arith)) i

abbrev three_word : ℕ → ℕ
three_word u = (((8421600 + u / 4096) % 2 ^ 32 + (bit_and (u / 64) 63 * 256) % 2 ^ 32) % 2 ^ 32
    + (bit_and u 63 * 65536) % 2 ^ 32) % 2 ^ 32

abbrev three_then : ℕ → List ℕ → List ℕ
three_then u l = (224 + u / 4096) ∷ (128 + (u / 64) % 64) ∷ (128 + u % 64) ∷ 0 ∷ l

three_digits : (u k number : ℕ) → u < 2 ^ 16
    → digits_l 256 (suc (suc (suc (suc k)))) (three_word u + 2 ^ 32 * number) ≡ three_then u (digits_l 256 k number)
three_digits u k number fits =
    let middle = and_mask (u / 64) 6 in
    let low = and_mask u 6 in
    let word : three_word u ≡ 224 + u / 4096 + 256 * (128 + (u / 64) % 64 + 256 * (128 + u % 64)) =
    omega (arith, low, middle, fits) in
    let whole = three_word u + 2 ^ 32 * number in
    let first : whole % 256 ≡ 224 + u / 4096 = omega (arith, word, fits) in
    let second : whole / 256 % 256 ≡ 128 + (u / 64) % 64 = omega (arith, word, fits) in
    let third : whole / 256 / 256 % 256 ≡ 128 + u % 64 = omega (arith, word, fits) in
    let none : whole / 256 / 256 / 256 % 256 ≡ 0 = omega (arith, word, fits) in
    let rest : whole / 256 / 256 / 256 / 256 ≡ number = omega (arith, word, fits) in
    λ i. first i ∷ second i ∷ third i ∷ none i ∷ digits_l 256 k (rest i)

abbrev pub without_fourths : List ℕ → List ℕ
without_fourths l = pick_l 0 (l ++ l) (0 ∷ 1 ∷ 2 ∷ 4 ∷ 5 ∷ 6 ∷ 8 ∷ 9 ∷ 10 ∷ 12 ∷ 13 ∷ 14 ∷ 3 ∷ 7 ∷ 11 ∷ 15 ∷ [])

abbrev pub three : ℕ → List ℕ
three u = (224 + u / 4096) ∷ (128 + (u / 64) % 64) ∷ (128 + u % 64) ∷ []

pub three_of : (xs : List ℕ) → length xs ≡ 4 → Each1 (Fits w16) xs
    → take 12 (without_fourths (digits_l 256 16 (number_l (2 ^ 32) (map three_word xs)))) ≡ flat_map three xs
three_of [] long fits = absurd (omega arith)
three_of (a ∷ []) long fits = absurd (omega arith)
three_of (a ∷ b ∷ []) long fits = absurd (omega arith)
three_of (a ∷ b ∷ c ∷ []) long fits = absurd (omega arith)
three_of (a ∷ b ∷ c ∷ d ∷ []) long fits =
    ap (λ l. take 12 (without_fourths l)) (three_digits a 12 _ fits.0.fits
    ∙ ap (three_then a) (three_digits b 8 _ fits.1.0.fits
    ∙ ap (three_then b) (three_digits c 4 _ fits.1.1.0.fits ∙ ap (three_then c) (three_digits d 0 0 fits.1.1.1.0.fits))))
three_of (a ∷ b ∷ c ∷ d ∷ e ∷ xs) long fits = absurd (omega arith)

pub three_front : (xs : List ℕ) → Each1 (λ u. (2048 ≤ u) × IsScalar u × (u < 2 ^ 16)) xs
    → flat_map three xs ≡ encodes xs
three_front [] all = refl
three_front (x ∷ xs) all =
    λ i. sym (encode_three x all.0.0 all.0.2) i ++ three_front xs all.1 i

-- the text of units that begin with characters
own_text : (xs rest : List ℕ) → Each1 IsOwn xs → utf16_lossy_text (xs ++ rest) ≡ xs ++ utf16_lossy_text rest
own_text [] rest all = refl
own_text (x ∷ xs) rest all = own_step x (xs ++ rest) all.0.0 all.0.1 ∙ ap (λ t. x ∷ t) (own_text xs rest all.1)

own_scalars : (xs : List ℕ) → Each1 IsOwn xs → scalars xs ≡ true
own_scalars [] all = refl
own_scalars (x ∷ xs) all = and_from _ _ all.0.0 (own_scalars xs all.1)

pub run_utf8 : (block bytes next : List ℕ) (n : ℕ) → next ≡ bytes ++ encodes (take n block) → IsUtf8 bytes
    → Each1 IsOwn (take n block) → IsUtf8 next
run_utf8 block bytes next n is utf8 own =
    let front = take n block in
    subst IsUtf8 (sym is) (IsUtf8-append bytes (encodes front) utf8 (front, (own_scalars front own, refl)))

pub run_text : (units block bytes next : List ℕ) (at n : ℕ) → block ≡ take 16 (drop at units) → n ≤ 16
    → next ≡ bytes ++ encodes (take n block) → IsUtf8 bytes → Each1 IsOwn (take n block)
    → text_of next ++ utf16_lossy_text (drop (at + n) units) ≡ text_of bytes ++ utf16_lossy_text (drop at units)
run_text units block bytes next at n read few is utf8 own =
    let front = take n block in
    let left = drop (at + n) units in
    let spelled : text_of next ≡ text_of bytes ++ front =
    ap text_of is ∙ chars-append bytes (encodes front) utf8
    ∙ ap (λ t. text_of bytes ++ t) (chars-encodes front (own_scalars front own)) in
    let parts : front ++ left ≡ drop at units =
    (λ i. (ap (take n) read ∙ take-take n 16 (drop at units) few) i ++ sym (drop-drop n at units) i)
    ∙ take-append-drop n (drop at units) in
    ap (λ t. t ++ utf16_lossy_text left) spelled ∙ append_assoc (text_of bytes) front (utf16_lossy_text left)
    ∙ ap (λ t. text_of bytes ++ t) (sym (own_text front left own) ∙ ap utf16_lossy_text parts)
