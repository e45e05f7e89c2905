-- Arrays of three words whose last byte is the length.
use Rattle.std.proofs.Common.{◌≡◌, ℕ, ◌+◌, ◌-◌, ◌*◌, ◌^◌, ◌<◌, ◌≤◌, List, [], ◌∷◌, ◌++◌, length, take, drop, ap, sym}
use Rattle.std.proofs.Common.{◌∙◌, arith, length-append, append_assoc, ⊎_elim}
use Rattle.std.specs.Prelude.{replicate, bit_or, nat_lt, if◌then◌else◌}
use Rattle.std.proofs.lemmas.Bool.{lt-ltb, le-ltb, cond-true, cond-false, cases_lt}
use Rattle.std.proofs.lemmas.List.{append-nil, length-drop, length-take-le, take-replicate, take_all, drop_all}
use Rattle.std.proofs.Math.Nat.{pow-le-pow_right}
use Rattle.std.proofs.Math.Seq.{take-append-add}
use Rattle.compact_text.specs.WordBytes.{le_number, word_bytes}
use Rattle.compact_repr.specs.Packed.{packed_bytes}
use Rattle.compact_text.proofs.ByteNumbers.{AllBytes, AllBytes-take, AllBytes-drop, word_bytes-le_number}
use Rattle.compact_text.proofs.ByteNumbers.{length-word_bytes, le_number-lt, word_bytes-with_last}
use Rattle.compact_text.proofs.WordArrays.{array_of_three, array_of_two, array_of_one}

-- the third word
abbrev with_length : ℕ → ℕ → ℕ
with_length word len = if nat_lt len 24 then bit_or word ((192 + len) * 2 ^ 56) else word

-- fewer than 24 bytes and zeros: the last zero becomes the length
ended : (xs x y : List ℕ) (word : ℕ) → length x ≡ 8 → length y ≡ 8 → word < 2 ^ 56 → length xs < 24
    → x ++ y ++ word_bytes word ≡ xs ++ replicate (24 - length xs) 0
    → x ++ y ++ word_bytes (with_length word (length xs)) ≡ packed_bytes xs
ended xs x y word length_x length_y seven short array =
    let last : ℕ = 192 + length xs in
    let third : List ℕ = word_bytes word in
    let gap : ℕ = 23 - length xs in
    let marked : word_bytes (with_length word (length xs)) ≡ take 7 third ++ last ∷ [] =
    ap word_bytes (cond-true _ _ _ (lt-ltb (length xs) 24 short))
    ∙ word_bytes-with_last word last seven (omega arith) in
    let two : length (x ++ y) + 7 ≡ 23 = omega (arith, length-append x y) in
    let all : length xs + gap ≡ 23 = omega arith in
    let front : x ++ y ++ take 7 third ≡ xs ++ replicate gap 0 =
    sym (take-append-add (x ++ y) third 7)
    ∙ ap (λ (n : ℕ). take n (x ++ y ++ third)) two
    ∙ ap (take 23) array
    ∙ ap (λ (n : ℕ). take n (xs ++ replicate (24 - length xs) 0)) (sym all)
    ∙ take-append-add xs (replicate (24 - length xs) 0) gap
    ∙ ap (λ (ys : List ℕ). xs ++ ys) (take-replicate gap (24 - length xs) 0 (omega arith)) in
    ap (λ (ys : List ℕ). x ++ y ++ ys) marked
    ∙ sym (append_assoc (x ++ y) (take 7 third) (last ∷ []))
    ∙ ap (λ (ys : List ℕ). ys ++ last ∷ []) front
    ∙ sym (cond-true _ _ _ (lt-ltb (length xs) 24 short))

-- 24 bytes leave no room for a length
full : (xs x y : List ℕ) (word : ℕ) → length xs ≡ 24 → x ++ y ++ word_bytes word ≡ xs ++ replicate (24 - length xs) 0
    → x ++ y ++ word_bytes (with_length word (length xs)) ≡ packed_bytes xs
full xs x y word all array =
    ap (λ (n : ℕ). x ++ y ++ word_bytes n) (cond-false _ _ _ (le-ltb (length xs) 24 (omega arith)))
    ∙ array
    ∙ ap (λ (n : ℕ). xs ++ replicate (24 - n) 0) all
    ∙ append-nil xs
    ∙ sym (cond-false _ _ _ (le-ltb (length xs) 24 (omega arith)))

-- seven bytes leave the last byte of a word free
seven_bytes : (xs : List ℕ) → AllBytes xs → length xs ≤ 7 → le_number xs < 2 ^ 56
seven_bytes xs all most =
    let below = le_number-lt xs all in
    let bits : 8 * length xs ≤ 56 = omega arith in
    let power : 2 ^ (8 * length xs) ≤ 2 ^ 56 = pow-le-pow_right {n = 2} (omega arith) {i = 8 * length xs} {j = 56}
    bits in
    omega (arith, below, power)

packed_three : (xs : List ℕ) → AllBytes xs → 16 ≤ length xs → length xs ≤ 24
    → take 8 xs ++ take 8 (drop 8 xs) ++ word_bytes (with_length (le_number (drop 16 xs)) (length xs)) ≡ packed_bytes xs
packed_three xs all held most =
    let first : length (take 8 xs) ≡ 8 = length-take-le 8 xs (omega arith) in
    let second : length (take 8 (drop 8 xs)) ≡ 8 = length-take-le 8 (drop 8 xs) (omega (arith, length-drop 8 xs)) in
    let array = array_of_three xs all held most in
    ⊎_elim
    (λ (short : length xs < 24).
    ended xs (take 8 xs) (take 8 (drop 8 xs)) (le_number (drop 16 xs)) first second
    (seven_bytes (drop 16 xs) (AllBytes-drop 16 xs all) (omega (arith, length-drop 16 xs))) short array)
    (λ (long : 24 ≤ length xs). full xs (take 8 xs) (take 8 (drop 8 xs)) (le_number (drop 16 xs)) (omega arith) array)
    (cases_lt (length xs) 24)

packed_two : (xs : List ℕ) → AllBytes xs → 8 ≤ length xs → length xs ≤ 16
    → take 8 xs ++ word_bytes (le_number (drop 8 xs)) ++ word_bytes (with_length 0 (length xs)) ≡ packed_bytes xs
packed_two xs all held most =
    ended xs (take 8 xs) (word_bytes (le_number (drop 8 xs))) 0 (length-take-le 8 xs held)
    (length-word_bytes (le_number (drop 8 xs))) (omega arith) (omega arith) (array_of_two xs all held most)

-- from eight bytes on, without a test of the length
pub packed_long : (xs : List ℕ) → AllBytes xs → 8 ≤ length xs → length xs ≤ 24
    → take 8 xs ++ word_bytes (le_number (take 8 (drop 8 xs)))
    ++ word_bytes (with_length (le_number (drop 16 xs)) (length xs)) ≡ packed_bytes xs
packed_long xs all held most =
    ⊎_elim
    (λ (short : length xs < 16).
    let second : take 8 (drop 8 xs) ≡ drop 8 xs = take_all 8 (drop 8 xs) (omega (arith, length-drop 8 xs)) in
    let third : drop 16 xs ≡ [] = drop_all 16 xs (omega arith) in
    ap (λ (ys : List ℕ). take 8 xs ++ word_bytes (le_number ys)
    ++ word_bytes (with_length (le_number (drop 16 xs)) (length xs))) second
    ∙ ap (λ (ys : List ℕ). take 8 xs ++ word_bytes (le_number (drop 8 xs))
    ++ word_bytes (with_length (le_number ys) (length xs))) third
    ∙ packed_two xs all held (omega arith))
    (λ (long : 16 ≤ length xs).
    let eight : length (take 8 (drop 8 xs)) ≡ 8 = length-take-le 8 (drop 8 xs) (omega (arith, length-drop 8 xs)) in
    ap (λ (ys : List ℕ). take 8 xs ++ ys ++ word_bytes (with_length (le_number (drop 16 xs)) (length xs)))
    (word_bytes-le_number (take 8 (drop 8 xs)) (AllBytes-take 8 (drop 8 xs) (AllBytes-drop 8 xs all)) eight)
    ∙ packed_three xs all long most)
    (cases_lt (length xs) 16)

pub packed_one : (xs : List ℕ) → AllBytes xs → length xs ≤ 8
    → word_bytes (le_number xs) ++ word_bytes 0 ++ word_bytes (with_length 0 (length xs)) ≡ packed_bytes xs
packed_one xs all most =
    ended xs (word_bytes (le_number xs)) (word_bytes 0) 0 (length-word_bytes (le_number xs)) (length-word_bytes 0)
    (omega arith) (omega arith) (array_of_one xs all most)
