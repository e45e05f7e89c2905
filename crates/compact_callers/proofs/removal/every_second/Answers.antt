use Rattle.std.proofs.Common.{rules, ℕ, Bool, not}
use Rattle.std.proofs.lemmas.Result.{on_ok_weaker}
use Rattle.compact_str.proofs.RetainLemmas.{kept-by_rule}
use Rattle.compact_callers.specs.contracts.removal.fn.every_second.retain as closure
use Rattle.compact_callers.proofs.removal.every_second.Goals as goal

pub returns-clause-text : goal.returns-clause-text
returns-clause-text c =
    on_ok_weaker _ (kept-by_rule _ (λ f. (closure.captures f).skip) (λ (skip : Bool) (x : ℕ). (not skip, not skip))
    (λ p x b q k. search rules) _ _ _) c.retain.ensures.text
