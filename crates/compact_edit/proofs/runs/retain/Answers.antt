use Rattle.std.proofs.Common.{◌≡◌, rules, ap, sym, Some, List, ℕ}
use Rattle.compact_str.specs.RetainRules.{retained_text, flag_rule}
use Rattle.compact_str.specs.Value.{placed_text}
use Rattle.compact_str.proofs.RetainLemmas.{kept-by_rule}
use Rattle.compact_edit.specs.contracts.runs.fn.retain.retain as closure
use Rattle.compact_edit.proofs.runs.retain.Goals as goal

pub returns-clause-ok : goal.returns-clause-ok
returns-clause-ok g c =
    let text : c.retain.new.self.text ≡ retained_text flag_rule c.args.flags.now c.args.value.now.text =
    kept-by_rule _ (λ f. (closure.captures f).rest.now) flag_rule (λ p x b q k. search rules) _ _ _
    c.in_ok-retain.ensures.text in
    rw c.in_ok-retain.ensures.place (ap (λ (t : List ℕ). Some (placed_text t c.retain.new.self.placement)) (sym text))
