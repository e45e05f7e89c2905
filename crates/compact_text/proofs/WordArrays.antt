-- Arrays of 24 bytes as three words.
use Rattle.std.proofs.Common.{◌≡◌, ℕ, ◌+◌, ◌-◌, ◌≤◌, List, ◌++◌, length, take, drop, refl, ap, sym, ◌∙◌, arith}
use Rattle.std.proofs.Common.{append_assoc}
use Rattle.std.specs.Prelude.{replicate}
use Rattle.std.proofs.lemmas.List.{length-drop, take-append-drop, take_all, drop-drop, replicate-append-replicate}
use Rattle.compact_text.specs.WordBytes.{le_number, word_bytes}
use Rattle.compact_text.proofs.ByteNumbers.{AllBytes, AllBytes-drop, word_bytes-number_short}

-- the words of an array
pub array_is_three : (xs x y z : List ℕ) → length xs ≡ 24 → x ≡ take 8 xs → y ≡ take 8 (drop 8 xs)
    → z ≡ take 8 (drop 16 xs) → x ++ y ++ z ≡ xs
array_is_three xs x y z long first second third =
    let last : take 8 (drop 16 xs) ≡ drop 16 xs = take_all 8 (drop 16 xs) (omega (arith, length-drop 16 xs)) in
    let whole : take 8 xs ++ (take 8 (drop 8 xs) ++ drop 16 xs) ≡ xs =
    ap (λ (ys : List ℕ). take 8 xs ++ (take 8 (drop 8 xs) ++ ys)) (sym (drop-drop 8 8 xs))
    ∙ ap (λ (ys : List ℕ). take 8 xs ++ ys) (take-append-drop 8 (drop 8 xs))
    ∙ take-append-drop 8 xs in
    rw (first, second, third, last, append_assoc (take 8 xs) (take 8 (drop 8 xs)) (drop 16 xs)) whole

abbrev zeros : ℕ → List ℕ
zeros n = replicate n 0

zero_word : word_bytes 0 ≡ zeros 8
unfolding word_bytes
zero_word = refl

-- n bytes of an array, and those after them
joined : (xs rest : List ℕ) (at n : ℕ) → take n (drop at xs) ++ (drop (at + n) xs ++ rest) ≡ drop at xs ++ rest
joined xs rest at n =
    sym (append_assoc (take n (drop at xs)) (drop (at + n) xs) rest)
    ∙ ap (λ (ys : List ℕ). take n (drop at xs) ++ ys ++ rest) (sym (drop-drop n at xs))
    ∙ ap (λ (ys : List ℕ). ys ++ rest) (take-append-drop n (drop at xs))

more_zeros : (xs : List ℕ) (m n k : ℕ) → m + n ≡ k → xs ++ zeros m ++ zeros n ≡ xs ++ zeros k
more_zeros xs m n k sum =
    append_assoc xs (zeros m) (zeros n) ∙ ap (λ (ys : List ℕ). xs ++ ys)
    (replicate-append-replicate m n 0 ∙ ap zeros sum)

pub array_of_three : (xs : List ℕ) → AllBytes xs → 16 ≤ length xs → length xs ≤ 24
    → take 8 xs ++ take 8 (drop 8 xs) ++ word_bytes (le_number (drop 16 xs)) ≡ xs ++ replicate (24 - length xs) 0
array_of_three xs all held most =
    let rest : List ℕ = drop 16 xs in
    let long : length rest ≡ length xs - 16 = length-drop 16 xs in
    let gap : ℕ = 8 - length rest in
    let same : gap ≡ 24 - length xs = omega arith in
    ap (λ (ys : List ℕ). take 8 xs ++ take 8 (drop 8 xs) ++ ys)
    (word_bytes-number_short rest (AllBytes-drop 16 xs all) (omega arith))
    ∙ append_assoc (take 8 xs) (take 8 (drop 8 xs)) (rest ++ zeros gap)
    ∙ ap (λ (ys : List ℕ). take 8 xs ++ ys) (joined xs (zeros gap) 8 8)
    ∙ joined xs (zeros gap) 0 8
    ∙ ap (λ (n : ℕ). xs ++ zeros n) same

pub array_of_two : (xs : List ℕ) → AllBytes xs → 8 ≤ length xs → length xs ≤ 16
    → take 8 xs ++ word_bytes (le_number (drop 8 xs)) ++ word_bytes 0 ≡ xs ++ replicate (24 - length xs) 0
array_of_two xs all held most =
    let rest : List ℕ = drop 8 xs in
    let long : length rest ≡ length xs - 8 = length-drop 8 xs in
    let gap : ℕ = 8 - length rest in
    let same : gap + 8 ≡ 24 - length xs = omega arith in
    ap (λ (ys : List ℕ). take 8 xs ++ ys ++ word_bytes 0) (word_bytes-number_short rest (AllBytes-drop 8 xs all)
    (omega arith))
    ∙ ap (λ (ys : List ℕ). take 8 xs ++ (rest ++ zeros gap) ++ ys) zero_word
    ∙ ap (λ (ys : List ℕ). ys ++ zeros 8) (joined xs (zeros gap) 0 8)
    ∙ more_zeros xs gap 8 (24 - length xs) same

pub array_of_one : (xs : List ℕ) → AllBytes xs → length xs ≤ 8
    → word_bytes (le_number xs) ++ word_bytes 0 ++ word_bytes 0 ≡ xs ++ replicate (24 - length xs) 0
array_of_one xs all most =
    let gap : ℕ = 8 - length xs in
    let same : gap + 8 + 8 ≡ 24 - length xs = omega arith in
    ap (λ (ys : List ℕ). ys ++ word_bytes 0 ++ word_bytes 0) (word_bytes-number_short xs all most)
    ∙ ap (λ (ys : List ℕ). xs ++ zeros gap ++ ys ++ ys) zero_word
    ∙ ap (λ (ys : List ℕ). ys ++ zeros 8) (more_zeros xs gap 8 (gap + 8) refl)
    ∙ more_zeros xs (gap + 8) 8 (24 - length xs) same
