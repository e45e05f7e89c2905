-- Slices with a part written by its two ends.
use Rattle.std.proofs.Common.{◌≡◌, ℕ, ◌+◌, ◌≤◌, List, ◌++◌, length, take, drop, refl, ap, sym, ◌∙◌, arith}
use Rattle.std.proofs.Common.{length-append, append_assoc}
use Rattle.std.proofs.lemmas.List.{length-take-le, take-append-le, take-take, take_at, drop_at, drop-drop}
use lib.Seq.{paste}
use Rattle.compact_text.proofs.MovesByBlock.{take-add}

-- the first n bytes of the source are written, and then the n bytes from k on, which overlap or follow them
pub ends : (slice source first last : List ℕ) (at n k count : ℕ) → k ≤ n → k + n ≡ count → count ≤ length source
    → at + count ≤ length slice
    → first ≡ take n source → last ≡ take n (drop k source) → paste (paste slice at first n) (at + k) last n
    ≡ paste slice at source count
ends slice source first last at n k count near all held within e f =
    let before : List ℕ = take at slice in
    let a : List ℕ = take n source in
    let b : List ℕ = take n (drop k source) in
    let rest : List ℕ = drop (at + n) slice in
    let now : List ℕ = paste slice at first n in
    let first_is : take n first ≡ a = ap (take n) e ∙ take-take n n source (omega arith) in
    let last_is : take n last ≡ b = ap (take n) f ∙ take-take n n (drop k source) (omega arith) in
    let length_before : length before ≡ at = length-take-le at slice (omega arith) in
    let length_a : length a ≡ n = length-take-le n source (omega arith) in
    let length_both : length (before ++ take n first) ≡ at + n = length-append before (take n first)
    ∙ omega (arith, length_before, ap length first_is, length_a) in
    let parts : now ≡ before ++ (a ++ rest) = append_assoc before (take n first) rest
    ∙ ap (λ x. before ++ (x ++ rest)) first_is in
    let front : take (at + k) now ≡ before ++ take k source =
    take-add now at k
    ∙ rw (
      ap (take at) parts ∙ take_at before (a ++ rest) at length_before,
      ap (drop at) parts
          ∙ drop_at before (a ++ rest) at length_before,
    )
    (ap (λ x. before ++ x) (take-append-le k a rest (omega (arith, length_a)) ∙ take-take k n source near)) in
    let places : at + k + n ≡ at + n + k = omega arith in
    let whole_count : at + n + k ≡ at + count = omega arith in
    let back : drop (at + k + n) now ≡ drop (at + count) slice =
    ap (λ (j : ℕ). drop j now) places ∙ sym (drop-drop k (at + n) now)
    ∙ ap (drop k) (drop_at (before ++ take n first) rest (at + n) length_both)
    ∙ drop-drop k (at + n) slice ∙ ap (λ (j : ℕ). drop j slice) whole_count in
    let joined : take k source ++ b ≡ take count source = sym (take-add source k n)
    ∙ ap (λ (j : ℕ). take j source) all in
    let whole : (take (at + k) now ++ take n last) ++ drop (at + k + n) now ≡ ((before ++ take k source) ++ b)
    ++ drop (at + count) slice = rw (front, last_is, back) refl in
    whole ∙ ap (λ x. x ++ drop (at + count) slice) (append_assoc before (take k source) b
    ∙ ap (λ x. before ++ x) joined)
