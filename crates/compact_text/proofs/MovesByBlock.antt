-- Slices of which a part moves block by block.
use Rattle.std.proofs.Common.{◌≡◌, ℕ, ◌+◌, ◌-◌, ◌≤◌, List, ◌++◌, length, take, drop, refl, ap, sym, ◌∙◌, subst}
use Rattle.std.proofs.Common.{arith, length-append, append_assoc, add_assoc}
use Rattle.std.proofs.lemmas.List.{length-drop, length-take-le, take-append-drop, take-append-le, take-take, take_at}
use Rattle.std.proofs.lemmas.List.{drop_at, drop-drop, drop-take}
use lib.Seq.{paste}

pub take-add : (xs : List ℕ) (m n : ℕ) → take (m + n) xs ≡ take m xs ++ take n (drop m xs)
take-add xs m n =
    let front : take m (take (m + n) xs) ≡ take m xs = take-take m (m + n) xs (omega arith) in
    sym (take-append-drop m (take (m + n) xs)) ∙ rw (front, drop-take m n xs) refl

take-source : (slice : List ℕ) (from k n : ℕ) → take (k + n) (drop from slice) ≡ take k (drop from slice)
    ++ take n (drop (from + k) slice)
take-source slice from k n = take-add (drop from slice) k n ∙ ap (λ x. take k (drop from slice) ++ take n x)
    (drop-drop k from slice)

-- the last n bytes have moved up, and now the k before them
up-one : (slice : List ℕ) (from to k n : ℕ) → from ≤ to → to + k + n ≤ length slice
    → paste (paste slice (to + k) (drop (from + k) slice) n) to
    (drop from (paste slice (to + k) (drop (from + k) slice) n)) k ≡ paste slice to (drop from slice) (k + n)
up-one slice from to k n upward within =
    let a : List ℕ = take (to + k) slice in
    let b : List ℕ = take n (drop (from + k) slice) in
    let c : List ℕ = drop (to + k + n) slice in
    let now : List ℕ = paste slice (to + k) (drop (from + k) slice) n in
    let length_a : length a ≡ to + k = length-take-le (to + k) slice (omega arith) in
    let parts : now ≡ a ++ (b ++ c) = append_assoc a b c in
    let below : (j : ℕ) → j ≤ to + k → take j now ≡ take j slice =
    λ j h. ap (take j) parts ∙ take-append-le j a (b ++ c) (omega (arith, h, length_a))
    ∙ take-take j (to + k) slice h in
    let front : take to now ≡ take to slice = below to (omega arith) in
    let source : take k (drop from now) ≡ take k (drop from slice) = sym (drop-take from k now)
    ∙ ap (drop from) (below (from + k) (omega arith)) ∙ drop-take from k slice in
    let back : drop (to + k) now ≡ b ++ c = ap (drop (to + k)) parts ∙ drop_at a (b ++ c) (to + k) length_a in
    let whole : take to now ++ take k (drop from now) ++ drop (to + k) now ≡ take to slice
    ++ (take k (drop from slice) ++ b) ++ c = rw (front, source, back) (simp append_assoc) in
    whole ∙ rw (← take-source slice from k n, add_assoc to k n) refl

-- the first n bytes have moved down, and now the k after them
down-one : (slice : List ℕ) (from to n k : ℕ) → to ≤ from → from + n + k ≤ length slice
    → paste (paste slice to (drop from slice) n) (to + n) (drop (from + n) (paste slice to (drop from slice) n)) k
    ≡ paste slice to (drop from slice) (n + k)
down-one slice from to n k downward within =
    let a : List ℕ = take to slice in
    let b : List ℕ = take n (drop from slice) in
    let c : List ℕ = drop (to + n) slice in
    let now : List ℕ = paste slice to (drop from slice) n in
    let length_a : length a ≡ to = length-take-le to slice (omega arith) in
    let length_b : length b ≡ n = length-take-le n (drop from slice) (omega (arith, length-drop from slice)) in
    let length_ab : length (a ++ b) ≡ to + n = length-append a b ∙ omega (arith, length_a, length_b) in
    let front : take (to + n) now ≡ a ++ b = take_at (a ++ b) c (to + n) length_ab in
    let past : (j : ℕ) → drop (to + n + j) now ≡ drop (to + n + j) slice =
    λ j. sym (drop-drop j (to + n) now) ∙ ap (drop j) (drop_at (a ++ b) c (to + n) length_ab)
    ∙ drop-drop j (to + n) slice in
    let gap : to + n + (from - to) ≡ from + n = omega arith in
    let source : drop (from + n) now ≡ drop (from + n) slice =
    subst (λ (j : ℕ). drop j now ≡ drop j slice) gap (past (from - to)) in
    let whole : take (to + n) now ++ take k (drop (from + n) now) ++ drop (to + n + k) now ≡ a
    ++ (b ++ take k (drop (from + n) slice)) ++ drop (to + n + k) slice =
    rw (front, source, past k) (simp append_assoc) in
    whole ∙ rw (← take-source slice from n k, add_assoc to n k) refl

pub shifted-up : (slice now : List ℕ) (from to k n upper_from upper_to all : ℕ) → from ≤ to → to + all ≤ length slice
    → upper_from ≡ from + k → upper_to ≡ to + k → all ≡ k + n → now ≡ paste slice upper_to (drop upper_from slice) n
    → paste now to (drop from now) k ≡ paste slice to (drop from slice) all
shifted-up slice now from to k n upper_from upper_to all upward within e f g h =
    let at : now ≡ paste slice (to + k) (drop (from + k) slice) n = cc in
    ap (λ x. paste x to (drop from x) k) at ∙ up-one slice from to k n upward (omega arith)
    ∙ ap (λ (j : ℕ). paste slice to (drop from slice) j) (sym g)

pub shifted-down : (slice now : List ℕ) (from to n k later_from later_to all : ℕ) → to ≤ from
    → from + all ≤ length slice
    → later_from ≡ from + n → later_to ≡ to + n → all ≡ n + k → now ≡ paste slice to (drop from slice) n
    → paste now later_to (drop later_from now) k ≡ paste slice to (drop from slice) all
shifted-down slice now from to n k later_from later_to all downward within e f g h =
    let at : paste now later_to (drop later_from now) k ≡ paste (paste slice to (drop from slice) n) (to + n)
    (drop (from + n) (paste slice to (drop from slice) n)) k = cc in
    at ∙ down-one slice from to n k downward (omega arith) ∙ ap (λ (j : ℕ). paste slice to (drop from slice) j) (sym g)

pub paste_same : (slice : List ℕ) (from to n : ℕ) → from ≡ to → slice ≡ paste slice to (drop from slice) n
paste_same slice from to n e =
    let b : List ℕ = take n (drop to slice) in
    let rest : take to slice ++ b ++ drop (to + n) slice ≡ slice =
    append_assoc (take to slice) b (drop (to + n) slice)
    ∙ ap (λ x. take to slice ++ (b ++ x)) (sym (drop-drop n to slice))
    ∙ ap (λ x. take to slice ++ x) (take-append-drop n (drop to slice))
    ∙ take-append-drop to slice in
    sym rest ∙ ap (λ (j : ℕ). paste slice to (drop j slice) n) (sym e)
