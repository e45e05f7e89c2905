-- A loop over an iterator as one run to its end.
use Rattle.std.proofs.Common.{◌≡◌, ℕ, ◌+◌, List, [], ◌∷◌, ◌++◌, flat_map, refl, ap, subst, ◌∙◌, sym, zero-add, true}
use Rattle.std.proofs.Common.{arith}
use Rattle.std.specs.Prelude.{Option, None}
use Rattle.std.specs.Iterator.{Yields}
use Rattle.std.specs.Iterator.Runs.{WholeRun}
use Rattle.std.specs.List.{fold}
use Rattle.std.proofs.iter.runs.Made.{run, to_end}
use Rattle.compact_str.specs.Text.{size}
use Rattle.compact_str.specs.Value.{PlacedText, placed_text}
use Rattle.compact_str.specs.Capacity.{inline_placement}

-- from s come xs, all in P, and then nothing more
pub ran_to_end : {S T : Type 0} (steps : S → Option T → S → Type 0) (s j t u : S) (xs : List T) (P : List T → Type 0)
    → j ≡ s → Yields steps j xs t → steps t None u → P xs → WholeRun steps s (λ p. P p.items)
ran_to_end steps s j t u xs P same came ends holds = (
  run steps s xs true (to_end steps s xs (u, (t, subst (λ k. Yields steps k xs t) same came, ends))),
  refl,
  refl,
  holds,
)

-- appending to the empty text
pub after_nothing : (v : PlacedText) (t u : List ℕ) → v ≡ placed_text [] inline_placement → t ≡ v.text ++ u → t ≡ u
after_nothing v t u e k = k ∙ ap (λ (w : PlacedText). w.text ++ u) e

two_sizes : (a b : List ℕ) → size (a ++ b) ≡ size a + size b
two_sizes [] b = omega arith
two_sizes (c ∷ cs) b = omega (arith, two_sizes cs b)

sizes_from : {T : Type 0} (f : T → List ℕ) (n : ℕ) (xs : List T)
    → n + size (flat_map f xs) ≡ fold (λ k x. k + size (f x)) n xs
sizes_from f n [] = omega arith
sizes_from f n (x ∷ xs) = omega (arith, two_sizes (f x) (flat_map f xs), sizes_from f (n + size (f x)) xs)

-- the sizes of consecutive texts, summed
pub sizes : {T : Type 0} (f : T → List ℕ) (t : List ℕ) (xs : List T) → t ≡ flat_map f xs
    → size t ≡ fold (λ k x. k + size (f x)) 0 xs
sizes f t xs e = ap size e ∙ sym (zero-add _) ∙ sizes_from f 0 xs
