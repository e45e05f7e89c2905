-- Appended bytes.
use Rattle.std.proofs.Common.{◌≡◌, ℕ, ◌+◌, ◌-◌, ◌≤◌, List, [], ◌∷◌, ◌++◌, length, take, drop, replicate, ap, sym}
use Rattle.std.proofs.Common.{◌∙◌, arith, append_assoc}
use Rattle.std.proofs.lemmas.List.{take-take, take_all, replicate-append-replicate}
use Rattle.std.proofs.lemmas.List.{drop-append-le, take-append-le, drop-drop, length-drop}
use Rattle.std.proofs.Math.Seq.{take-append-add, take-append_seam, take-add}

-- the first m bytes of the source are appended, truncated to k, and then its last n
pub joined_ends : (slice source : List ℕ) (len m k n : ℕ) → len ≡ length slice → k ≤ m → k + n ≡ length source
    → take (len + k) (slice ++ take m source) ++ take n (drop k source) ≡ slice ++ source
joined_ends slice source len m k n e near all =
    ap (λ (j : ℕ). take (j + k) (slice ++ take m source) ++ take n (drop k source)) e
    ∙ ap (λ x. x ++ take n (drop k source)) (take-append-add slice (take m source) k
    ∙ ap (λ x. slice ++ x) (take-take k m source near))
    ∙ append_assoc slice (take k source) (take n (drop k source))
    ∙ ap (λ x. slice ++ x) (sym (take-add k n source) ∙ take_all (k + n) source (omega (arith, all)))

-- one byte less
pub one_less : (slice less : List ℕ) (last n k : ℕ) → take n slice ≡ less ++ last ∷ [] → length less ≡ k → k ≤ n
    → less ≡ take k slice
one_less slice less last n k e len near =
    sym (ap (λ (j : ℕ). take j slice) (sym len) ∙ sym (take-take (length less) n slice (omega (arith, len, near)))
    ∙ ap (take (length less)) e ∙ take-append_seam less (last ∷ []))

-- one more block
pub one_more : (slice source : List ℕ) (k n m : ℕ) → k + n ≡ m
    → (slice ++ take k source) ++ take n (drop k source) ≡ slice ++ take m source
one_more slice source k n m e =
    append_assoc slice (take k source) (take n (drop k source))
    ∙ ap (λ x. slice ++ x) (sym (take-add k n source) ∙ ap (λ (j : ℕ). take j source) e)

pub one_more_zero : (slice : List ℕ) (first counter : ℕ) → first ≤ counter
    → (slice ++ replicate (counter - first) 0) ++ 0 ∷ [] ≡ slice ++ replicate (counter + 1 - first) 0
one_more_zero slice first counter le =
    let more : counter - first + 1 ≡ counter + 1 - first = omega arith in
    append_assoc slice (replicate (counter - first) 0) (0 ∷ [])
    ∙ ap (λ x. slice ++ x) (replicate-append-replicate (counter - first) 1 0 ∙ ap (λ (n : ℕ). replicate n 0) more)

-- one more block of the list itself
pub one_more_within : (slice : List ℕ) (start done at n m : ℕ) → at ≡ start + done → at + n ≤ length slice → m ≡ done + n
    → (slice ++ take done (drop start slice)) ++ take n (drop at (slice ++ take done (drop start slice)))
    ≡ slice ++ take m (drop start slice)
one_more_within slice start done at n m e within f =
    let added : List ℕ = take done (drop start slice) in
    let block : take n (drop at (slice ++ added)) ≡ take n (drop done (drop start slice)) =
    ap (take n) (drop-append-le at slice added (omega arith))
    ∙ take-append-le n (drop at slice) added (omega (arith, length-drop at slice))
    ∙ ap (take n) (sym (drop-drop done start slice ∙ ap (λ (j : ℕ). drop j slice) (sym e))) in
    ap (λ (x : List ℕ). (slice ++ added) ++ x) block ∙ one_more slice (drop start slice) done n m (sym f)
