-- Retaining by a test with a state.
use Rattle.std.proofs.Common.{◌≡◌, ℕ, List, [], ◌∷◌, Bool, true, false, length, refl, ap, sym, ◌∙◌, arith}
use Rattle.std.proofs.lemmas.Bool.{cond-true, cond-false}
use Rattle.std.specs.List.{items_where_true, filter}
use Rattle.std.specs.List.Retain.{IsFiltered, ReturnsInTurn}
use Rattle.compact_repr.specs.Retain.{IsFilteredTo}
use Rattle.compact_str.specs.RetainRules.{retained_text, retain_state}

-- forgets the final state of the test
pub filtered : {F X : Type 0} (calls : F → X → Bool → F → Type 0) (f g : F) (xs ys : List X)
    → IsFilteredTo calls f xs ys g → IsFiltered calls f xs ys
filtered calls f g xs ys h = (h.0, g, h.1, h.2, h.3)

module _ {F S : Type 0} (calls : F → ℕ → Bool → F → Type 0) (state : F → S) (rule : S → ℕ → Bool × S)
    (obeys : (p : F) (c : ℕ) (b : Bool) (q : F) → calls p c b q
    → (b ≡ (rule (state p) c).0) × (state q ≡ (rule (state p) c).1)) where
  in_turn : (t : List ℕ) (answers : List Bool) (p q : F) → length answers ≡ length t
      → ReturnsInTurn calls p answers t q → items_where_true answers t ≡ retained_text rule (state p) t
  in_turn [] [] p q e said = refl
  in_turn [] (b ∷ bs) p q e said = absurd (omega (arith, e))
  in_turn (c ∷ cs) [] p q e said = absurd (omega (arith, e))
  in_turn (c ∷ cs) (true ∷ bs) p q e said =
      let one = obeys p c true said.0 said.1 in
      let rest = in_turn cs bs said.0 q (omega (arith, e)) said.2 ∙ ap (λ (s : S). retained_text rule s cs) one.1 in
      ap (λ (l : List ℕ). c ∷ l) rest ∙ sym (cond-true _ _ _ (sym one.0))
  in_turn (c ∷ cs) (false ∷ bs) p q e said =
      let one = obeys p c false said.0 said.1 in
      let rest = in_turn cs bs said.0 q (omega (arith, e)) said.2 ∙ ap (λ (s : S). retained_text rule s cs) one.1 in
      rest ∙ sym (cond-false _ _ _ (sym one.0))

  moves : (t : List ℕ) (answers : List Bool) (p q : F) → length answers ≡ length t → ReturnsInTurn calls p answers t q
      → state q ≡ retain_state rule (state p) t
  moves [] [] p q e said = ap state (sym said)
  moves [] (b ∷ bs) p q e said = absurd (omega (arith, e))
  moves (c ∷ cs) [] p q e said = absurd (omega (arith, e))
  moves (c ∷ cs) (b ∷ bs) p q e said =
      let one = obeys p c b said.0 said.1 in
      moves cs bs said.0 q (omega (arith, e)) said.2 ∙ ap (λ (s : S). retain_state rule s cs) one.1

  -- a test that follows a rule keeps what the rule does
  pub kept-by_rule : (p : F) (t u : List ℕ) → IsFiltered calls p t u → u ≡ retained_text rule (state p) t
  kept-by_rule p t u h = h.4 ∙ in_turn t h.0 p h.1 h.2 h.3

  -- and ends in the rule's state
  pub left-by_rule : (p q : F) (t u : List ℕ) → IsFilteredTo calls p t u q → state q ≡ retain_state rule (state p) t
  left-by_rule p q t u h = moves t h.0 p q h.1 h.2

-- a test that never changes its mind on a character filters the text
module _ {F : Type 0} (calls : F → ℕ → Bool → F → Type 0) (says : ℕ → Bool)
    (obeys : (p : F) (c : ℕ) (b : Bool) (q : F) → calls p c b q → b ≡ says c) where
  chosen : (t : List ℕ) (answers : List Bool) (p q : F) → length answers ≡ length t
      → ReturnsInTurn calls p answers t q → items_where_true answers t ≡ filter says t
  chosen [] [] p q e said = refl
  chosen [] (b ∷ bs) p q e said = absurd (omega (arith, e))
  chosen (c ∷ cs) [] p q e said = absurd (omega (arith, e))
  chosen (c ∷ cs) (true ∷ bs) p q e said =
      let rest = chosen cs bs said.0 q (omega (arith, e)) said.2 in
      ap (λ (l : List ℕ). c ∷ l) rest ∙ sym (cond-true _ _ _ (sym (obeys p c true said.0 said.1)))
  chosen (c ∷ cs) (false ∷ bs) p q e said =
      let rest = chosen cs bs said.0 q (omega (arith, e)) said.2 in
      rest ∙ sym (cond-false _ _ _ (sym (obeys p c false said.0 said.1)))

  pub filters : (p q : F) (t u : List ℕ) → IsFilteredTo calls p t u q → u ≡ filter says t
  filters p q t u h = h.3 ∙ chosen t h.0 p q h.1 h.2

-- a part of the state that no call changes, such as a reference to which the test writes
module _ {F X S : Type 0} (calls : F → X → Bool → F → Type 0) (state : F → S)
    (same : (p : F) (x : X) (b : Bool) (q : F) → calls p x b q → state q ≡ state p) where
  stays : (xs : List X) (answers : List Bool) (p q : F) → ReturnsInTurn calls p answers xs q → state q ≡ state p
  stays xs [] p q said = ap state (sym said)
  stays [] (b ∷ bs) p q said = absurd said
  stays (x ∷ xs) (b ∷ bs) p q said = stays xs bs said.0 q said.2 ∙ same p x b said.0 said.1

  pub unchanged : (p q : F) (xs ys : List X) → IsFilteredTo calls p xs ys q → state q ≡ state p
  unchanged p q xs ys h = stays xs h.0 p q h.2
