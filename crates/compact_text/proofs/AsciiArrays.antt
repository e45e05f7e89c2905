-- Arrays whose words have no high bit are ASCII.
use Rattle.std.proofs.Common.{◌≡◌, ℕ, ◌+◌, ◌/◌, ◌%◌, ◌^◌, List, ◌++◌, length, take, drop, zero, suc, refl, ap, sym, ◌∙◌}
use Rattle.std.proofs.Common.{subst, arith, length-append}
use Rattle.std.specs.Prelude.{bit_and}
use Rattle.std.specs.Int.{bit_at}
use Rattle.std.specs.Str.{IsAscii}
use Rattle.std.proofs.lemmas.Nat.Bits.{bit_at_and}
use Rattle.std.proofs.lemmas.List.{length-take-le, length-drop}
use Rattle.std.proofs.lemmas.Str.{IsAscii-append}
use Rattle.std.proofs.Math.Seq.{take-append-add}
use Rattle.compact_text.specs.WordBytes.{word_bytes}
use Rattle.compact_text.proofs.WordArrays.{array_is_three}

-- the mask has the top bit of each byte, so the word has none
no_bit : (word mask k : ℕ) → bit_and word mask ≡ 0 → bit_at mask k ≡ 1 → word / 2 ^ k % 2 ≡ 0
no_bit word mask k none one =
    let both = bit_at_and word mask k in
    let zeros : bit_at (bit_and word mask) k ≡ bit_at 0 k = ap (λ (n : ℕ). bit_at n k) none in
    let nothing : bit_at 0 k ≡ 0 = omega arith in
    omega (arith, both, zeros, nothing, one)

pub ascii_word : (word : ℕ) → bit_and word 9259542123273814144 ≡ 0 → IsAscii (word_bytes word)
unfolding word_bytes
ascii_word word none zero = let top = no_bit word 9259542123273814144 7 none refl in omega (arith, top)
ascii_word word none (suc zero) = let top = no_bit word 9259542123273814144 15 none refl in omega (arith, top)
ascii_word word none (suc (suc zero)) = let top = no_bit word 9259542123273814144 23 none refl in omega (arith, top)
ascii_word word none (suc (suc (suc zero))) = let top = no_bit word 9259542123273814144 31 none refl in
    omega (arith, top)
ascii_word word none (suc (suc (suc (suc zero)))) = let top = no_bit word 9259542123273814144 39 none refl in
    omega (arith, top)
ascii_word word none (suc (suc (suc (suc (suc zero))))) = let top = no_bit word 9259542123273814144 47 none refl in
    omega (arith, top)
ascii_word word none (suc (suc (suc (suc (suc (suc zero)))))) = let top =
    no_bit word 9259542123273814144 55 none refl in omega (arith, top)
ascii_word word none (suc (suc (suc (suc (suc (suc (suc zero))))))) = let top =
    no_bit word 9259542123273814144 63 none refl in omega (arith, top)
ascii_word word none (suc (suc (suc (suc (suc (suc (suc (suc i)))))))) = omega arith

-- the first seven bytes of a word
ascii_seven : (word : ℕ) → bit_and (word % 72057594037927936) 9259542123273814144 ≡ 0
    → IsAscii (take 7 (word_bytes word))
unfolding word_bytes
ascii_seven word none zero = let top = no_bit (word % 72057594037927936) 9259542123273814144 7 none refl in
    omega (arith, top)
ascii_seven word none (suc zero) = let top = no_bit (word % 72057594037927936) 9259542123273814144 15 none refl in
    omega (arith, top)
ascii_seven word none (suc (suc zero)) = let top = no_bit (word % 72057594037927936) 9259542123273814144 23 none
    refl in omega (arith, top)
ascii_seven word none (suc (suc (suc zero))) = let top = no_bit (word % 72057594037927936) 9259542123273814144 31 none
    refl in omega (arith, top)
ascii_seven word none (suc (suc (suc (suc zero)))) = let top =
    no_bit (word % 72057594037927936) 9259542123273814144 39 none refl in omega (arith, top)
ascii_seven word none (suc (suc (suc (suc (suc zero))))) = let top =
    no_bit (word % 72057594037927936) 9259542123273814144 47 none refl in omega (arith, top)
ascii_seven word none (suc (suc (suc (suc (suc (suc zero)))))) = let top =
    no_bit (word % 72057594037927936) 9259542123273814144 55 none refl in omega (arith, top)
ascii_seven word none (suc (suc (suc (suc (suc (suc (suc i))))))) = omega arith

pub ascii_array : (array : List ℕ) (a b c : ℕ) → length array ≡ 24
    → word_bytes a ≡ take 8 array → word_bytes b ≡ take 8 (drop 8 array) → word_bytes c ≡ take 8 (drop 16 array)
    → bit_and a 9259542123273814144 ≡ 0 → bit_and b 9259542123273814144 ≡ 0
    → bit_and (c % 72057594037927936) 9259542123273814144 ≡ 0
    → IsAscii (take 23 array)
ascii_array array a b c long first second third p q r =
    let x : List ℕ = word_bytes a in
    let y : List ℕ = word_bytes b in
    let z : List ℕ = word_bytes c in
    let whole : x ++ y ++ z ≡ array = array_is_three array x y z long first second third in
    let length_x : length x ≡ 8 = ap length first ∙ length-take-le 8 array (omega arith) in
    let length_y : length y ≡ 8 = ap length second ∙ length-take-le 8 (drop 8 array)
    (omega (arith, length-drop 8 array)) in
    let two : length (x ++ y) + 7 ≡ 23 = omega (arith, length-append x y) in
    let front : x ++ y ++ take 7 z ≡ take 23 array =
    sym (take-append-add (x ++ y) z 7) ∙ ap (λ (n : ℕ). take n (x ++ y ++ z)) two ∙ ap (take 23) whole in
    subst IsAscii front (IsAscii-append (x ++ y) (take 7 z) (IsAscii-append x y (ascii_word a p) (ascii_word b q))
    (ascii_seven c r))
