-- For crates that intern texts one by one. `intern_loop_facts` is for a loop over `intern` whose invariant says that
-- the
-- numbers so far are those of the texts so far: the next number, and that each is below the number of names. Named
-- above the
-- function, as `#[tactic(auto, using(compact_edit::proofs::ForCallers::intern_loop_facts))]`.
use Rattle.std.proofs.Common.{◌≡◌, ℕ, ◌+◌, ◌<◌, ◌≤◌, List, [], ◌∷◌, ◌++◌, length, take, map, get_or, slice_get, Some}
use Rattle.std.proofs.Common.{zero, suc, arith, append-nil, All}
use Rattle.std.proofs.lemmas.Grind.{common_steps, take_at_read}
use Rattle.std.proofs.lemmas.List.{map-append}
use Rattle.std.proofs.lemmas.List.Elements.{All-nil, All-cons}
use Rattle.std.proofs.lemmas.Option.{gets}
use Rattle.compact_edit.specs.Names.{AreNumbersOf}

-- each name keeps its number
abbrev pub Keeps : List (List ℕ) → List (List ℕ) → Type 0
Keeps before after = (n : ℕ) (name : List ℕ) → slice_get before n ≡ Some name → slice_get after n ≡ Some name

pub numbers-next : (before after texts : List (List ℕ)) (numbers : List ℕ) (t : List ℕ) (n : ℕ)
    → AreNumbersOf before texts numbers → Keeps before after
    → slice_get after n ≡ Some t → AreNumbersOf after (texts ++ t ∷ []) (numbers ++ n ∷ [])
numbers-next before after [] [] t n all keeps at = (at, tt)
numbers-next before after [] (m ∷ numbers) t n all keeps at = absurd all
numbers-next before after (s ∷ texts) [] t n all keeps at = absurd all
numbers-next before after (s ∷ texts) (m ∷ numbers) t n all keeps at =
    (keeps m s all.0, numbers-next before after texts numbers t n all.1 keeps at)

below-length : (names : List (List ℕ)) (n : ℕ) (t : List ℕ) → slice_get names n ≡ Some t → n < length names
below-length names n t at = grind (arith, common_steps, gets)

pub numbers-below : (names texts : List (List ℕ)) (numbers : List ℕ) → AreNumbersOf names texts numbers
    → All (λ n. n < length names) numbers
numbers-below names [] [] all = All-nil (λ (n : ℕ). n < length names)
numbers-below names [] (m ∷ numbers) all = absurd all
numbers-below names (s ∷ texts) [] all = absurd all
numbers-below names (s ∷ texts) (m ∷ numbers) all = All-cons (λ (n : ℕ). n < length names) m numbers
    (below-length names m s all.0) (numbers-below names texts numbers all.1)

pub ruleset intern_loop_facts = (numbers-next, numbers-below, take_at_read, map-append, append-nil)
