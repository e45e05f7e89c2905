-- Lists of bytes as numbers and as words.
use Rattle.std.proofs.Common.{◌≡◌, ℕ, ◌+◌, ◌-◌, ◌*◌, ◌/◌, ◌%◌, ◌^◌, ◌<◌, ◌≤◌, List, [], ◌∷◌, ◌++◌, length, take, drop}
use Rattle.std.proofs.Common.{get_or, refl, ap, sym, ◌∙◌, subst, arith, length-append, ⊎_elim}
use Prim.Native.Nat.{zero, suc}
use Rattle.std.specs.Prelude.{replicate, bit_or, min}
use Rattle.std.proofs.lemmas.Bool.{cases_lt}
use Rattle.std.specs.Int.{to_le_bytes, from_le_bytes, w64}
use Rattle.std.specs.Int.Bits.{or_zero_l, or_zero_r, or_self, or_shifted_r}
use Rattle.std.proofs.Math.Nat.{mul_assoc, mod-eq_of_lt}
use Rattle.std.proofs.lemmas.Nat.{pow-add, pow_pos, shr_high, mod_low, or_block, le_bytes_8}
use Rattle.std.proofs.lemmas.Nat.{from_le_bytes-to_le_bytes_8}
use Rattle.std.proofs.lemmas.List.{length-take-le, length-drop, length-replicate, take-append-drop, take-take}
use Rattle.std.proofs.lemmas.List.{drop-take, take_all, drop_all, drop-drop, get_or-drop}
use Rattle.compact_text.specs.WordBytes.{le_number, word_bytes}

-- the items of an array of bytes
abbrev pub AllBytes : List ℕ → Type 0
AllBytes bytes = (i : ℕ) → get_or bytes i 0 < 256

pub AllBytes-append : (xs ys : List ℕ) → AllBytes xs → AllBytes ys → AllBytes (xs ++ ys)
AllBytes-append [] ys front back i = back i
AllBytes-append (x ∷ xs) ys front back zero = front 0
AllBytes-append (x ∷ xs) ys front back (suc i) = AllBytes-append xs ys (λ j. front (suc j)) back i

pub AllBytes-cons : (x : ℕ) (xs : List ℕ) → x < 256 → AllBytes xs → AllBytes (x ∷ xs)
AllBytes-cons x xs first rest zero = first
AllBytes-cons x xs first rest (suc i) = rest i

pub AllBytes-zeros : (n : ℕ) → AllBytes (replicate n 0)
AllBytes-zeros zero i = omega arith
AllBytes-zeros (suc n) zero = omega arith
AllBytes-zeros (suc n) (suc i) = AllBytes-zeros n i

pub AllBytes-take : (n : ℕ) (xs : List ℕ) → AllBytes xs → AllBytes (take n xs)
AllBytes-take zero xs all i = omega arith
AllBytes-take (suc n) [] all i = omega arith
AllBytes-take (suc n) (x ∷ xs) all zero = all 0
AllBytes-take (suc n) (x ∷ xs) all (suc i) = AllBytes-take n xs (λ j. all (suc j)) i

pub AllBytes-drop : (n : ℕ) (xs : List ℕ) → AllBytes xs → AllBytes (drop n xs)
AllBytes-drop n xs all i = rw get_or-drop (all (n + i))

one_byte_more : (n : ℕ) → 2 ^ (8 * suc n) ≡ 2 ^ (8 * n) * 256
one_byte_more n =
    let at : 8 * suc n ≡ 8 * n + 8 = omega arith in
    ap (λ (m : ℕ). 2 ^ m) at ∙ pow-add 2 (8 * n) 8

pub le_number-append : (xs ys : List ℕ) → le_number (xs ++ ys) ≡ le_number ys * 2 ^ (8 * length xs) + le_number xs
le_number-append [] ys = omega arith
le_number-append (x ∷ xs) ys =
    let rest = le_number-append xs ys in
    let factor : le_number ys * 2 ^ (8 * suc (length xs)) ≡ le_number ys * 2 ^ (8 * length xs) * 256 =
    ap (λ (m : ℕ). le_number ys * m) (one_byte_more (length xs))
    ∙ sym (mul_assoc (le_number ys) (2 ^ (8 * length xs)) 256) in
    omega (arith, rest, factor)

pub le_number-lt : (xs : List ℕ) → AllBytes xs → le_number xs < 2 ^ (8 * length xs)
le_number-lt [] all = omega arith
le_number-lt (x ∷ xs) all =
    let rest = le_number-lt xs (λ i. all (suc i)) in
    let first = all 0 in
    let factor = one_byte_more (length xs) in
    omega (arith, rest, first, factor)

-- the first n bytes are a number below the factor of the others
number_front : (n : ℕ) (xs : List ℕ) → AllBytes xs → n ≤ length xs → le_number (take n xs) < 2 ^ (8 * n)
number_front n xs all within =
    subst (λ (m : ℕ). le_number (take n xs) < 2 ^ (8 * m)) (length-take-le n xs within)
    (le_number-lt (take n xs) (AllBytes-take n xs all))

pub number_parts : (n : ℕ) (xs : List ℕ) → n ≤ length xs → le_number xs ≡ le_number (drop n xs) * 2 ^ (8 * n)
    + le_number (take n xs)
number_parts n xs within =
    ap le_number (sym (take-append-drop n xs)) ∙ le_number-append (take n xs) (drop n xs)
    ∙ ap (λ (m : ℕ). le_number (drop n xs) * 2 ^ (8 * m) + le_number (take n xs)) (length-take-le n xs within)

pub le_number-take : (n : ℕ) (xs : List ℕ) → AllBytes xs → n ≤ length xs
    → le_number xs % 2 ^ (8 * n) ≡ le_number (take n xs)
le_number-take n xs all within =
    ap (λ (m : ℕ). m % 2 ^ (8 * n)) (number_parts n xs within)
    ∙ mod_low (le_number (drop n xs)) (8 * n) (le_number (take n xs)) (number_front n xs all within)

pub le_number-drop : (n : ℕ) (xs : List ℕ) → AllBytes xs → n ≤ length xs
    → le_number xs / 2 ^ (8 * n) ≡ le_number (drop n xs)
le_number-drop n xs all within =
    ap (λ (m : ℕ). m / 2 ^ (8 * n)) (number_parts n xs within)
    ∙ shr_high (le_number (drop n xs)) (8 * n) (le_number (take n xs)) (number_front n xs all within)

number_zeros : (n : ℕ) → le_number (replicate n 0) ≡ 0
number_zeros zero = refl
number_zeros (suc n) = let rest = number_zeros n in omega (arith, rest)

le_number-append-zeros : (xs : List ℕ) (n : ℕ) → le_number (xs ++ replicate n 0) ≡ le_number xs
le_number-append-zeros xs n =
    le_number-append xs (replicate n 0) ∙ (let none = number_zeros n in rw none (omega arith))

number_is_read : (xs : List ℕ) → length xs ≡ 8 → le_number xs ≡ from_le_bytes w64 xs
number_is_read [] eight = absurd (omega arith)
number_is_read (a ∷ []) eight = absurd (omega arith)
number_is_read (a ∷ b ∷ []) eight = absurd (omega arith)
number_is_read (a ∷ b ∷ c ∷ []) eight = absurd (omega arith)
number_is_read (a ∷ b ∷ c ∷ d ∷ []) eight = absurd (omega arith)
number_is_read (a ∷ b ∷ c ∷ d ∷ e ∷ []) eight = absurd (omega arith)
number_is_read (a ∷ b ∷ c ∷ d ∷ e ∷ f ∷ []) eight = absurd (omega arith)
number_is_read (a ∷ b ∷ c ∷ d ∷ e ∷ f ∷ g ∷ []) eight = absurd (omega arith)
number_is_read (a ∷ b ∷ c ∷ d ∷ e ∷ f ∷ g ∷ h ∷ []) eight = omega arith
number_is_read (a ∷ b ∷ c ∷ d ∷ e ∷ f ∷ g ∷ h ∷ i ∷ xs) eight = absurd (omega arith)

pub word_bytes-le_number : (xs : List ℕ) → AllBytes xs → length xs ≡ 8 → word_bytes (le_number xs) ≡ xs
unfolding word_bytes
word_bytes-le_number xs all eight = le_bytes_8 xs (le_number xs) eight all (number_is_read xs eight)

-- fewer than eight bytes make a word padded with zeros
pub word_bytes-number_short : (xs : List ℕ) → AllBytes xs → length xs ≤ 8
    → word_bytes (le_number xs) ≡ xs ++ replicate (8 - length xs) 0
word_bytes-number_short xs all most =
    let gap : List ℕ = replicate (8 - length xs) 0 in
    let eight : length (xs ++ gap) ≡ 8 = length-append xs gap
    ∙ ap (λ (m : ℕ). length xs + m) (length-replicate (8 - length xs) 0) ∙ omega arith in
    ap word_bytes (sym (le_number-append-zeros xs (8 - length xs)))
    ∙ word_bytes-le_number (xs ++ gap) (AllBytes-append xs gap all (AllBytes-zeros (8 - length xs))) eight

pub length-word_bytes : (word : ℕ) → length (word_bytes word) ≡ 8
unfolding word_bytes
length-word_bytes word = refl

pub AllBytes-word_bytes : (word : ℕ) → AllBytes (word_bytes word)
unfolding word_bytes
AllBytes-word_bytes word zero = omega arith
AllBytes-word_bytes word (suc zero) = omega arith
AllBytes-word_bytes word (suc (suc zero)) = omega arith
AllBytes-word_bytes word (suc (suc (suc zero))) = omega arith
AllBytes-word_bytes word (suc (suc (suc (suc zero)))) = omega arith
AllBytes-word_bytes word (suc (suc (suc (suc (suc zero))))) = omega arith
AllBytes-word_bytes word (suc (suc (suc (suc (suc (suc zero)))))) = omega arith
AllBytes-word_bytes word (suc (suc (suc (suc (suc (suc (suc zero))))))) = omega arith
AllBytes-word_bytes word (suc (suc (suc (suc (suc (suc (suc (suc i)))))))) = omega arith

pub le_number-word_bytes : (word : ℕ) → word < 2 ^ 64 → le_number (word_bytes word) ≡ word
unfolding word_bytes
le_number-word_bytes word fits = number_is_read (to_le_bytes w64 word) refl ∙ from_le_bytes-to_le_bytes_8 word fits

-- the last k bytes of an array, without those before a position
pub number_last : (xs : List ℕ) (k from : ℕ) → AllBytes xs → k ≤ length xs → from ≤ length xs → length xs ≤ from + k
    → le_number (take k (drop (length xs - k) xs)) / 2 ^ (8 * (from + k - length xs)) ≡ le_number (drop from xs)
number_last xs k from all held start end =
    let at : ℕ = length xs - k in
    let past : ℕ = from + k - length xs in
    let long : length (drop at xs) ≡ k = length-drop at xs ∙ omega arith in
    let place : at + past ≡ from = omega arith in
    ap (λ (ys : List ℕ). le_number ys / 2 ^ (8 * past)) (take_all k (drop at xs) (omega arith))
    ∙ le_number-drop past (drop at xs) (AllBytes-drop at xs all) (omega arith)
    ∙ ap le_number (drop-drop past at xs ∙ ap (λ (m : ℕ). drop m xs) place)

-- the second eight bytes, or the fewer there are: the last eight, without those before
pub number_second : (xs : List ℕ) (at : ℕ) → AllBytes xs → 8 ≤ length xs → at ≡ min (length xs - 8) 8
    → le_number (take 8 (drop at xs)) / 2 ^ (8 * (8 - at)) ≡ le_number (take 8 (drop 8 xs))
number_second xs at all held is =
    ⊎_elim
    (λ (short : length xs < 16).
    let place : at ≡ length xs - 8 = omega arith in
    let past : 8 * (8 - at) ≡ 8 * (8 + 8 - length xs) = omega arith in
    ap (λ (n : ℕ). le_number (take 8 (drop n xs)) / 2 ^ (8 * (8 - at))) place
    ∙ ap (λ (n : ℕ). le_number (take 8 (drop (length xs - 8) xs)) / 2 ^ n) past
    ∙ number_last xs 8 8 all held held (omega arith)
    ∙ ap le_number (sym (take_all 8 (drop 8 xs) (omega (arith, length-drop 8 xs)))))
    (λ (long : 16 ≤ length xs).
    let place : at ≡ 8 = omega arith in
    let past : 8 * (8 - at) ≡ 0 = omega arith in
    ap (λ (n : ℕ). le_number (take 8 (drop at xs)) / 2 ^ n) past
    ∙ ap (λ (n : ℕ). le_number (take 8 (drop n xs)) / 2 ^ 0) place
    ∙ omega arith)
    (cases_lt (length xs) 16)

-- the bytes after the first sixteen, from the last eight
pub number_third : (xs : List ℕ) (count : ℕ) → AllBytes xs → 8 ≤ length xs → length xs ≤ 24 → count ≡ length xs - 16
    → le_number (take 8 (drop (length xs - 8) xs)) / 2 ^ (8 * (8 - count)) ≡ le_number (drop 16 xs)
number_third xs count all held most is =
    ⊎_elim
    (λ (short : length xs < 16).
    let last : List ℕ = drop (length xs - 8) xs in
    let whole : length last ≡ 8 = length-drop (length xs - 8) xs ∙ omega arith in
    let below = number_front 8 last (AllBytes-drop (length xs - 8) xs all) (omega (arith, whole)) in
    let past : 8 * (8 - count) ≡ 64 = omega arith in
    ap (λ (n : ℕ). le_number (take 8 last) / 2 ^ n) past
    ∙ omega (arith, below)
    ∙ ap le_number (sym (drop_all 16 xs (omega arith))))
    (λ (long : 16 ≤ length xs).
    let past : 8 * (8 - count) ≡ 8 * (16 + 8 - length xs) = omega arith in
    ap (λ (n : ℕ). le_number (take 8 (drop (length xs - 8) xs)) / 2 ^ n) past
    ∙ number_last xs 8 16 all held long (omega arith))
    (cases_lt (length xs) 16)

-- a number or-ed with its bits below 2 ^ k is itself
or_same : (k high low : ℕ) → low < 2 ^ k → bit_or low (high * 2 ^ k + low) ≡ high * 2 ^ k + low
or_same k high low below =
    let alone : low ≡ 0 * 2 ^ k + low = omega arith in
    ap (λ (n : ℕ). bit_or n (high * 2 ^ k + low)) alone
    ∙ or_block k 0 high low low below below
    ∙ ap (λ (n : ℕ). n * 2 ^ k + bit_or low low) (or_zero_l high)
    ∙ ap (λ (n : ℕ). high * 2 ^ k + n) (or_self low)

pub le_number-below_word : (xs : List ℕ) → AllBytes xs → length xs ≤ 8 → le_number xs < 2 ^ 64
le_number-below_word xs all most =
    let gap : List ℕ = replicate (8 - length xs) 0 in
    let eight : length (xs ++ gap) ≡ 8 = length-append xs gap
    ∙ ap (λ (m : ℕ). length xs + m) (length-replicate (8 - length xs) 0) ∙ omega arith in
    let below : le_number (xs ++ gap) < 2 ^ 64 = subst (λ (m : ℕ). le_number (xs ++ gap) < 2 ^ (8 * m)) eight
    (le_number-lt (xs ++ gap) (AllBytes-append xs gap all (AllBytes-zeros (8 - length xs)))) in
    subst (λ (n : ℕ). n < 2 ^ 64) (le_number-append-zeros xs (8 - length xs)) below

-- two reads of k bytes, from the start and up to the end, agree where they overlap
pub two_reads : (xs : List ℕ) (k first last : ℕ) → AllBytes xs → k ≤ length xs → length xs ≤ k + k → length xs ≤ 8
    → first ≡ le_number (take k xs) → last ≡ le_number (take k (drop (length xs - k) xs))
    → bit_or first (last * 2 ^ (8 * (length xs - k)) % 2 ^ 64) ≡ le_number xs
two_reads xs k first last all held most word front back =
    let at : ℕ = length xs - k in
    let over : ℕ = k - at in
    let rest : List ℕ = drop at xs in
    let both : List ℕ = take over rest in
    let before : ℕ = le_number (take at xs) in
    let every : AllBytes rest = AllBytes-drop at xs all in
    let length_rest : length rest ≡ k = length-drop at xs ∙ omega arith in
    let last_is : last ≡ le_number rest = back ∙ ap le_number (take_all k rest (omega (arith, length_rest))) in
    let whole : le_number xs ≡ le_number rest * 2 ^ (8 * at) + before = number_parts at xs (omega arith) in
    let sum : at + over ≡ k = omega arith in
    let cut : drop at (take k xs) ≡ both = ap (λ (n : ℕ). drop at (take n xs)) (sym sum) ∙ drop-take at over xs in
    let first_is : first ≡ le_number both * 2 ^ (8 * at) + before =
    front ∙ number_parts at (take k xs) (omega (arith, length-take-le k xs held))
    ∙ ap (λ (ys : List ℕ). le_number ys * 2 ^ (8 * at) + le_number (take at (take k xs))) cut
    ∙ ap (λ (ys : List ℕ). le_number both * 2 ^ (8 * at) + le_number ys) (take-take at k xs (omega arith)) in
    let read : le_number rest ≡ le_number (drop over rest) * 2 ^ (8 * over) + le_number both =
    number_parts over rest (omega (arith, length_rest)) in
    let once : bit_or (le_number both) (le_number rest) ≡ le_number rest =
    ap (λ (n : ℕ). bit_or (le_number both) n) read ∙ or_same (8 * over) (le_number (drop over rest)) (le_number both)
    (number_front over rest every (omega (arith, length_rest))) ∙ sym read in
    let fits : le_number xs < 2 ^ 64 = le_number-below_word xs all word in
    let shifted : last * 2 ^ (8 * at) % 2 ^ 64 ≡ le_number rest * 2 ^ (8 * at) + 0 =
    ap (λ (n : ℕ). n * 2 ^ (8 * at) % 2 ^ 64) last_is ∙ mod-eq_of_lt (omega (arith, whole, fits)) ∙ omega arith in
    ap (λ (n : ℕ). bit_or n (last * 2 ^ (8 * at) % 2 ^ 64)) first_is
    ∙ ap (λ (n : ℕ). bit_or (le_number both * 2 ^ (8 * at) + before) n) shifted
    ∙ or_block (8 * at) (le_number both) (le_number rest) before 0 (number_front at xs all (omega arith))
    (pow_pos (8 * at))
    ∙ ap (λ (n : ℕ). n * 2 ^ (8 * at) + bit_or before 0) once
    ∙ ap (λ (n : ℕ). le_number rest * 2 ^ (8 * at) + n) (or_zero_r before)
    ∙ sym whole

pub word_bytes-with_last : (word byte : ℕ) → word < 2 ^ 56 → byte < 256
    → word_bytes (bit_or word (byte * 2 ^ 56)) ≡ take 7 (word_bytes word) ++ byte ∷ []
word_bytes-with_last word byte seven small =
    let bytes : List ℕ = word_bytes word in
    let front : List ℕ = take 7 bytes in
    let all : AllBytes bytes = AllBytes-word_bytes word in
    let length_front : length front ≡ 7 = length-take-le 7 bytes (omega (arith, length-word_bytes word)) in
    let same : le_number bytes ≡ word = le_number-word_bytes word (omega arith) in
    let front_is : le_number front ≡ word =
    sym (le_number-take 7 bytes all (omega (arith, length-word_bytes word))) ∙ ap (λ (n : ℕ). n % 2 ^ 56) same
    ∙ mod-eq_of_lt seven in
    let one : le_number (byte ∷ []) ≡ byte = omega arith in
    let both : le_number (front ++ byte ∷ []) ≡ byte * 2 ^ 56 + word =
    le_number-append front (byte ∷ [])
    ∙ ap (λ (n : ℕ). le_number (byte ∷ []) * 2 ^ (8 * n) + le_number front) length_front
    ∙ ap (λ (n : ℕ). n * 2 ^ 56 + le_number front) one
    ∙ ap (λ (n : ℕ). byte * 2 ^ 56 + n) front_is in
    let each : AllBytes (front ++ byte ∷ []) = AllBytes-append front (byte ∷ []) (AllBytes-take 7 bytes all)
    (AllBytes-cons byte [] small (λ i. omega arith)) in
    let eight : length (front ++ byte ∷ []) ≡ 8 = length-append front (byte ∷ []) ∙ omega (arith, length_front) in
    ap word_bytes (or_shifted_r byte 56 word seven ∙ sym both) ∙ word_bytes-le_number (front ++ byte ∷ []) each eight

pub word_bytes-high : (word : ℕ) → word < 2 ^ 64 → drop 7 (word_bytes word) ≡ word / 2 ^ 56 ∷ []
unfolding word_bytes
word_bytes-high word fits = let same : word / 2 ^ 56 % 256 ≡ word / 2 ^ 56 = omega arith in ap (λ (n : ℕ). n ∷ []) same

-- three words as one number
pub three-words : (a b c : ℕ) → a < 2 ^ 64 → b < 2 ^ 64 → c < 2 ^ 64
    → le_number (word_bytes a ++ word_bytes b ++ word_bytes c) ≡ c * 2 ^ 128 + (b * 2 ^ 64 + a)
three-words a b c p q r =
    let two : length (word_bytes a ++ word_bytes b) ≡ 16 = omega
    (arith, length-append (word_bytes a) (word_bytes b), length-word_bytes a, length-word_bytes b) in
    le_number-append (word_bytes a ++ word_bytes b) (word_bytes c)
    ∙ rw (
      two,
      le_number-append (word_bytes a) (word_bytes b),
      length-word_bytes a,
      le_number-word_bytes a p,
      le_number-word_bytes b q,
      le_number-word_bytes c r,
    ) refl
