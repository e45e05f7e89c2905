use Rattle.std.proofs.Common.{◌∷◌, [], refl, ap, ◌∙◌, rules, length, length-append}
use Rattle.compact_str.proofs.DrainLemmas.{rest-back}
use Rattle.compact_str.proofs.string.drain.DrainDoubleEndedIterator.next_back.Goals as goal

pub overflow_add-self : goal.overflow_add-self
overflow_add-self g c =
    let taken = rest-back c.args.self.now _ _ _ c.as_str.ensures.text c.in_ok-width.ensures in
    let fits = taken.2 in
    search rules

pub invariant_of-self : goal.invariant_of-self
invariant_of-self g c =
    let taken = rest-back c.args.self.now _ _ _ c.as_str.ensures.text c.in_ok-width.ensures in
    record { range = c.args.self.now.range; rest = λ _. taken.0 }

pub returns-clause-steps : goal.returns-clause-steps
returns-clause-steps g c =
    let taken = rest-back c.args.self.now _ _ _ c.as_str.ensures.text c.in_ok-width.ensures in
    record { lender = refl; leaves = refl; step = taken.1 }

pub returns-clause-goes : goal.returns-clause-goes
returns-clause-goes g c =
    let taken = rest-back c.args.self.now _ _ _ c.as_str.ensures.text c.in_ok-width.ensures in
    let goes = ap length taken.1 ∙ length-append _ (c.in_ok-width.character ∷ []) in
    search rules
