-- The digits of a number, four or two at a time from the end.
use Rattle.std.proofs.Common.{◌≡◌, ℕ, zero, suc, ◌+◌, ◌-◌, ◌*◌, ◌/◌, ◌%◌, ◌^◌, ◌<◌, ◌≤◌, Bool, true, false, ◌&&◌, T}
use Rattle.std.proofs.Common.{eqb, List, [], ◌∷◌, ◌++◌, length, get_or, refl, ap, sym, ◌∙◌, inl, inr, arith, ⊎_elim}
use Rattle.std.proofs.Common.{eq-zero-or-pos, eqb→eq, length-append}
use mir.Val.{bool_byte}
use lib.Ieee.Fits.{and_l, and_r}
use Rattle.std.proofs.lemmas.Fmt.{IsAscii-decimal, decimal_digit, decimal_nonempty, decimal_step, length-decimal-le}
use Rattle.std.proofs.lemmas.Bool.{cases_lt, cond-true, lt-ltb}
use Rattle.std.proofs.lemmas.List.{length-replicate}
use Rattle.std.proofs.Math.Nat.{le-mul_of_pos_right}
use Rattle.std.proofs.Math.Pow.{pow_mono}
use Rattle.std.proofs.lemmas.Nat.{pow-add, pow_pos}
use Rattle.std.specs.Prelude.{replicate}
use Rattle.std.specs.Fmt.{decimal, sign_text}
use Rattle.std.specs.Int.{from_le_bytes, w16}
use Rattle.itoa.proofs.Decimal.{length_one, length_pair, decimal_two, decimal_pair, decimal_four}
use Rattle.compact_text.specs.WordBytes.{le_number}
use Rattle.compact_repr.specs.Packed.{packed_bytes}
use Rattle.compact_text.proofs.ByteNumbers.{AllBytes, AllBytes-append, AllBytes-cons, AllBytes-zeros, le_number-append}
use Rattle.compact_text.proofs.ByteNumbers.{le_number-lt, three-words}
use Rattle.compact_ext.specs.declared.to_compact_string.digits.TheConstants.{PAIRS}
use Rattle.compact_ext.specs.Digits.{two_digits, four_digits, prepended_number, number_text}
use Rattle.compact_ext.proofs.NumberTexts.{IsAscii-number}

-- the number of digits, by the power of ten reached

power_of_ten : (k : ℕ) → 1 ≤ 10 ^ k
power_of_ten zero = omega arith
power_of_ten (suc k) = omega (arith, power_of_ten k)

pub count-from_power : (k n : ℕ) → 10 ^ k ≤ n → n < 10 * 10 ^ k → n < 2 ^ 64 → length (decimal n) ≡ k + 1
count-from_power zero n low high fits = length_one n (omega (arith, high))
count-from_power (suc k) n low high fits =
    let ten : 10 ^ suc k ≡ 10 * 10 ^ k = omega arith in
    let some : 1 ≤ 10 ^ k = power_of_ten k in
    let front = count-from_power k (n / 10) (omega (arith, ten, low)) (omega (arith, ten, high)) (omega arith) in
    ap length (decimal_step n (omega (arith, ten, some, low)) fits) ∙ length-append (decimal (n / 10)) _
    ∙ omega (arith, front)

pub count-zero : (n : ℕ) → n ≡ 0 → 1 ≡ length (decimal n)
count-zero n e = sym (length_one n (omega arith))

pub count-short : (n : ℕ) → n < 2 ^ 64 → length (decimal n) ≤ 20
count-short n h = length-decimal-le 20 n (omega arith) (omega arith) h

pub ruleset digit_count_facts = (count-from_power, count-zero, count-short)

-- the table has the two digits of each number below 100

abbrev are_pairs : ℕ → Bool
are_pairs zero = true
are_pairs (suc p) = (eqb (get_or PAIRS (p * 2) 0) (48 + p / 10) && eqb (get_or PAIRS (p * 2 + 1) 0) (48 + p % 10)) &&
    are_pairs p

pair-among : (n p : ℕ) → T (are_pairs n) → p < n → (get_or PAIRS (p * 2) 0 ≡ 48 + p / 10)
    × (get_or PAIRS (p * 2 + 1) 0 ≡ 48 + p % 10)
pair-among zero p t h = absurd (omega arith)
pair-among (suc n) p t h =
    elim (eq-zero-or-pos (n - p)) [
      | inl z ↦ let e : p ≡ n = omega arith in let a = and_l _ (are_pairs n) t in
          rw e (eqb→eq _ _ (and_l _ _ a), eqb→eq _ _ (and_r _ _ a))
      | inr g ↦ pair-among n p (and_r _ (are_pairs n) t) (omega arith)
    ]

pub pair_number : (p : ℕ) → p < 100 → from_le_bytes w16 (get_or PAIRS (p * 2) 0 ∷ get_or PAIRS (p * 2 + 1) 0 ∷ [])
    ≡ le_number (two_digits p)
pair_number p h = let e = pair-among 100 p tt h in rw (e.0, e.1) (omega arith)

pub ruleset pair_facts = (pair_number)

-- the digits still to come precede those so far

prepended-append : (text : ℕ) (top group : List ℕ) → prepended_number text (top ++ group)
    ≡ prepended_number (prepended_number text group) top
prepended-append text top group =
    let both : 8 * length (top ++ group) ≡ 8 * length group + 8 * length top =
    ap (λ (k : ℕ). 8 * k) (length-append top group) ∙ omega arith in
    let scale = ap (λ (k : ℕ). text * 2 ^ k) both ∙ ap (λ (k : ℕ). text * k)
    (pow-add 2 (8 * length group) (8 * length top)) in
    omega (arith, scale, le_number-append top group)

bytes-decimal : (n : ℕ) → n < 2 ^ 64 → AllBytes (decimal n)
bytes-decimal n h i = omega (arith, IsAscii-decimal n h i)

pub prepended-four : (text n : ℕ) → 10000 ≤ n → n < 2 ^ 64 → prepended_number text (decimal n)
    ≡ prepended_number (text * 2 ^ 32 + le_number (four_digits (n % 10000))) (decimal (n / 10000))
prepended-four text n low fits = ap (prepended_number text) (decimal_four n low fits)
    ∙ prepended-append text (decimal (n / 10000)) (four_digits (n % 10000))

pub prepended-two : (text n : ℕ) → 100 ≤ n → n < 2 ^ 64 → prepended_number text (decimal n)
    ≡ prepended_number (text * 2 ^ 16 + le_number (two_digits (n % 100))) (decimal (n / 100))
prepended-two text n low fits = ap (prepended_number text) (decimal_pair n low fits)
    ∙ prepended-append text (decimal (n / 100)) (two_digits (n % 100))

pub number-fits : (n : ℕ) → n < 2 ^ 64 → le_number (decimal n) < 2 ^ 160
number-fits n fits =
    let few = count-short n fits in
    let most = pow_mono {i = 8 * length (decimal n)} {j = 160} (omega arith) in
    let below = le_number-lt (decimal n) (bytes-decimal n fits) in
    omega arith

pub prepended-fits : (text n : ℕ) (front : List ℕ) → prepended_number text front ≡ le_number (decimal n) → n < 2 ^ 64
    → text < 2 ^ 160
prepended-fits text n front e fits = omega (
  arith,
  e,
  number-fits n fits,
  le-mul_of_pos_right {m = 2 ^ (8 * length front)} text (pow_pos (8 * length front)),
)

pub ruleset digit_group_facts = (prepended-four, prepended-two, prepended-fits)

pub one-digit : (n : ℕ) → n < 10 → length (decimal n) ≡ 1
one-digit n low = ap length (decimal_digit n low)

pub two-long : (n : ℕ) → 10 ≤ n → n < 100 → length (decimal n) ≡ 2
two-long n low high = ap length (decimal_two n low high)

-- the pair of a number below 100, without a leading zero
pub first-pair : (n k : ℕ) → n < 100 → k ≡ length (decimal n)
    → le_number (two_digits n) / 2 ^ (8 * (2 - k)) ≡ le_number (decimal n)
first-pair n k h e = rw e (cases n h)
  where
    cases : (n : ℕ) → n < 100 → le_number (two_digits n) / 2 ^ (8 * (2 - length (decimal n))) ≡ le_number (decimal n)
    cases n h = ⊎_elim (λ (one : n < 10). rw (decimal_digit n one) (omega arith))
        (λ (ten : 10 ≤ n). rw (decimal_two n ten h) (omega arith)) (cases_lt n 10)

pub count-first : (n : ℕ) → n < 100 → length (decimal n) ≤ 2
count-first n h = length-decimal-le 2 n (omega arith) (omega arith) (omega arith)

pub count-some : (n : ℕ) → n < 2 ^ 64 → 1 ≤ length (decimal n)
count-some n fits = let some = decimal_nonempty n fits in omega arith

pub digits-fit : (n : ℕ) → n < 2 ^ 64 → le_number (decimal n) < 2 ^ (8 * length (decimal n))
digits-fit n fits = le_number-lt (decimal n) (bytes-decimal n fits)

pub ruleset first_digit_facts = (one-digit, two-long)

-- a number below 10,000 is two digits and the last one or two, or these alone

pub last-steps : (n p : ℕ) → n < 10000 → (n < 100 → p ≡ 0) → (100 ≤ n → p ≡ 1)
    → (p ≤ 1) × ((n - n / 100) * p ≤ n) × (n - (n - n / 100) * p < 100)
last-steps n p h none one =
    ⊎_elim
    (λ (low : n < 100). rw (none low) (omega arith, omega arith, omega arith))
    (λ (high : 100 ≤ n). rw (one high) (omega arith, omega arith, omega arith))
    (cases_lt n 100)

append-two : (n c : ℕ) → n < 10000 → 100 ≤ n → c ≡ length (decimal (n / 100))
    → le_number (decimal n) ≡ le_number (two_digits (n % 100)) * 2 ^ (8 * c) + le_number (decimal (n / 100))
append-two n c h high e = rw e (ap le_number (decimal_pair n high (omega arith))
    ∙ le_number-append (decimal (n / 100)) (two_digits (n % 100)))

-- a group of a pair and the last one or two digits, which are `c`
two-and-last : (n c : ℕ) → n < 10000 → 100 ≤ n → c ≡ length (decimal (n / 100)) → 1 ≤ c → c ≤ 2
    → le_number (two_digits (n % 100)) * 1 * 2 ^ (8 * c) % 2 ^ 64
    + le_number (two_digits (n / 100)) / 2 ^ (8 * (2 - c)) ≡ le_number (decimal n)
two-and-last n zero h high e some most = absurd (omega arith)
two-and-last n (suc zero) h high e some most = omega (
  arith,
  append-two n 1 h high e,
  first-pair (n / 100) 1 (omega arith) e,
)
two-and-last n (suc (suc zero)) h high e some most = omega (
  arith,
  append-two n 2 h high e,
  first-pair (n / 100) 2 (omega arith) e,
)
two-and-last n (suc (suc (suc c))) h high e some most = absurd (omega arith)

last-alone : (n c pair : ℕ) → n < 100 → c ≡ length (decimal n) → 1 ≤ c → c ≤ 2
    → pair * 0 * 2 ^ (8 * c) % 2 ^ 64 + le_number (two_digits n) / 2 ^ (8 * (2 - c)) ≡ le_number (decimal n)
last-alone n zero pair low e some most = absurd (omega arith)
last-alone n (suc zero) pair low e some most = omega (arith, first-pair n 1 low e)
last-alone n (suc (suc zero)) pair low e some most = omega (arith, first-pair n 2 low e)
last-alone n (suc (suc (suc c))) pair low e some most = absurd (omega arith)

pub last-group : (n p c two last : ℕ) → n < 10000 → (n < 100 → p ≡ 0) → (100 ≤ n → p ≡ 1)
    → c ≡ length (decimal (n - (n - n / 100) * p))
    → two ≡ le_number (two_digits (n % 100)) → last ≡ le_number (two_digits (n - (n - n / 100) * p))
    → (1 ≤ c) × (c ≤ 2) × (c + 2 * p ≡ length (decimal n))
    × (two * p * 2 ^ (8 * c) % 2 ^ 64 + last / 2 ^ (8 * (2 - c)) ≡ le_number (decimal n))
last-group n p c two last h none one many pair first =
    ⊎_elim
    (λ (low : n < 100).
    let zeros : p ≡ 0 = none low in
    let same : n - (n - n / 100) * p ≡ n = rw zeros (omega arith) in
    let count : c ≡ length (decimal n) = many ∙ ap (λ (k : ℕ). length (decimal k)) same in
    let ends : last ≡ le_number (two_digits n) = first ∙ ap (λ (k : ℕ). le_number (two_digits k)) same in
    let some : 1 ≤ c = omega (arith, count, count-some n (omega arith)) in
    let most : c ≤ 2 = omega (arith, count, count-first n low) in
    rw (zeros, ends) (some, most, omega (arith, count), last-alone n c two low count some most))
    (λ (high : 100 ≤ n).
    let ones : p ≡ 1 = one high in
    let same : n - (n - n / 100) * p ≡ n / 100 = rw ones (omega arith) in
    let count : c ≡ length (decimal (n / 100)) = many ∙ ap (λ (k : ℕ). length (decimal k)) same in
    let ends : last ≡ le_number (two_digits (n / 100)) = first ∙ ap (λ (k : ℕ). le_number (two_digits k)) same in
    let some : 1 ≤ c = omega (arith, count, count-some (n / 100) (omega arith)) in
    let most : c ≤ 2 = omega (arith, count, count-first (n / 100) (omega arith)) in
    rw (ones, pair, ends) (
      some,
      most,
      omega (arith, count, length_pair n high (omega arith)),
      two-and-last n c h high count some most,
    ))
    (cases_lt n 100)

pub ruleset last_digit_facts = (last-steps)

-- shifting the text for a group loses no bit

pub moves : (k low high group : ℕ) → 1 ≤ k → k ≤ 4 → low < 2 ^ 128 → group < 2 ^ (8 * k)
    → high * 2 ^ 128 + low < 2 ^ 160
    → (low * 2 ^ (8 * k) % 2 ^ 128 + group < 2 ^ 128) × (low / 2 ^ 64 < 2 ^ 64)
    × (high * 2 ^ (8 * k) % 2 ^ 64 + low / 2 ^ 64 / 2 ^ (64 - 8 * k) < 2 ^ 64)
    × ((high * 2 ^ (8 * k) % 2 ^ 64 + low / 2 ^ 64 / 2 ^ (64 - 8 * k)) * 2 ^ 128
    + (low * 2 ^ (8 * k) % 2 ^ 128 + group) ≡ (high * 2 ^ 128 + low) * 2 ^ (8 * k) + group)
moves zero low high group some most a b c = absurd (omega arith)
moves (suc zero) low high group some most a b c = (omega arith, omega arith, omega arith, omega arith)
moves (suc (suc zero)) low high group some most a b c = (omega arith, omega arith, omega arith, omega arith)
moves (suc (suc (suc zero))) low high group some most a b c = (omega arith, omega arith, omega arith, omega arith)
moves (suc (suc (suc (suc zero)))) low high group some most a b c = (omega arith, omega arith, omega arith, omega arith)
moves (suc (suc (suc (suc (suc k))))) low high group some most a b c = absurd (omega arith)

-- 24 bytes are determined by their number

le_number-same : (xs ys : List ℕ) → AllBytes xs → AllBytes ys → length xs ≡ length ys → le_number xs ≡ le_number ys
    → xs ≡ ys
le_number-same [] [] all each long e = refl
le_number-same [] (y ∷ ys) all each long e = absurd (omega arith)
le_number-same (x ∷ xs) [] all each long e = absurd (omega arith)
le_number-same (x ∷ xs) (y ∷ ys) all each long e =
    let first = all 0 in
    let other = each 0 in
    let head : x ≡ y = omega arith in
    let rest = le_number-same xs ys (λ i. all (suc i)) (λ i. each (suc i)) (omega arith) (omega arith) in
    rw (head, rest) refl

le_number-zeros : (n : ℕ) → le_number (replicate n 0) ≡ 0
le_number-zeros zero = refl
le_number-zeros (suc n) = omega (arith, le_number-zeros n)

pub array-packed : (text row : List ℕ) → length text ≤ 23 → AllBytes text → length row ≡ 24 → AllBytes row
    → le_number row ≡ (192 + length text) * 2 ^ 184 + le_number text → row ≡ packed_bytes text
array-packed text row few bytes long all e =
    let gap : ℕ = 23 - length text in
    let mark : List ℕ = (192 + length text) ∷ [] in
    let front : length (text ++ replicate gap 0) ≡ 23 = length-append text (replicate gap 0)
    ∙ ap (λ (k : ℕ). length text + k) (length-replicate gap 0) ∙ omega arith in
    let number : le_number ((text ++ replicate gap 0) ++ mark) ≡ (192 + length text) * 2 ^ 184 + le_number text =
    le_number-append (text ++ replicate gap 0) mark
    ∙ ap (λ (k : ℕ). le_number mark * 2 ^ (8 * k) + le_number (text ++ replicate gap 0)) front
    ∙ ap (λ (k : ℕ). le_number mark * 2 ^ 184 + k) (le_number-append text (replicate gap 0)
    ∙ ap (λ (k : ℕ). k * 2 ^ (8 * length text) + le_number text) (le_number-zeros gap))
    ∙ omega arith in
    le_number-same row ((text ++ replicate gap 0) ++ mark) all
    (AllBytes-append (text ++ replicate gap 0) mark (AllBytes-append text (replicate gap 0) bytes
    (AllBytes-zeros gap)) (AllBytes-cons (192 + length text) [] (omega arith) (λ i. omega arith)))
    (long ∙ sym (length-append (text ++ replicate gap 0) mark ∙ omega arith))
    (e ∙ sym number)
    ∙ sym (cond-true _ _ _ (lt-ltb (length text) 24 (omega arith)))

pub sign-fits : (s : Bool) (n : ℕ) → n < 2 ^ 64 → prepended_number (le_number (decimal n)) (sign_text s) < 2 ^ 184
sign-fits true n h = omega (arith, number-fits n h)
sign-fits false n h = omega (arith, number-fits n h)

-- the sign is one more byte
pub number-array : (s : Bool) (n sign count first text : ℕ) (row : List ℕ) → n < 2 ^ 64 → sign ≡ bool_byte s
    → count ≡ length (decimal n)
    → first ≡ le_number (decimal n) → text ≡ prepended_number first (sign_text s) → length row ≡ 24 → AllBytes row
    → le_number row ≡ (192 + (sign + count)) * 2 ^ 184 + text → row ≡ packed_bytes (number_text s n)
number-array true n sign count first text row h one many is more long all e =
    array-packed (number_text true n) row (omega (arith, count-short n h))
    (λ i. omega (arith, IsAscii-number true n h i)) long all (omega arith)
number-array false n sign count first text row h one many is more long all e =
    array-packed (number_text false n) row (omega (arith, count-short n h))
    (λ i. omega (arith, IsAscii-number false n h i)) long all (omega arith)

pub ruleset packed_number_facts = (number-fits, sign-fits)

-- the words of a packed text as one number
pub ruleset packed_word_facts = (three-words)
