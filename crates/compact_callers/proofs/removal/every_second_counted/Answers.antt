use Rattle.std.proofs.Common.{rules, ◌≡◌, ℕ, Bool, not}
use Rattle.compact_str.proofs.RetainLemmas.{filtered, kept-by_rule, left-by_rule, unchanged}
use Rattle.compact_callers.specs.contracts.removal.fn.every_second_counted.keep as closure
use Rattle.compact_callers.proofs.removal.every_second_counted.Goals as goal

pub returns-clause-text : goal.returns-clause-text
returns-clause-text c =
    kept-by_rule _ (λ f. (closure.captures f).kept) (λ (kept : Bool) (x : ℕ). (not kept, not kept))
    (λ p x b q k. search rules) _ _ _ (filtered _ _ _ _ _ c.in_ok-retain_by.ensures.text)

-- the state follows the rule, and is in the place it had at the call
pub returns-clause-last : goal.returns-clause-last
returns-clause-last c =
    let calls = c.in_ok-retain_by.ensures.text in
    let last = left-by_rule _ (λ f. (closure.captures f).kept) (λ (kept : Bool) (x : ℕ). (not kept, not kept))
    (λ p x b q k. search rules) _ _ _ _ calls in
    let place : c.retain_by.new.keep.0.ghost_name ≡ _ = unchanged _ (λ f. f.0.ghost_name) (λ p x b q k. search rules)
    _ _ _ _ calls in
    search (last, place, rules)
