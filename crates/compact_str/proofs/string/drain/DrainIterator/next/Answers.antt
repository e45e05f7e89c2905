use Rattle.std.proofs.Common.{refl, ap, rules, length}
use Rattle.compact_str.proofs.DrainLemmas.{rest-front}
use Rattle.compact_str.proofs.string.drain.DrainIterator.next.Goals as goal

pub overflow_add-self : goal.overflow_add-self
overflow_add-self g c =
    let taken = rest-front c.args.self.now _ _ _ refl c.in_ok-character.ensures in
    let fits = taken.0.0 in
    search rules

pub invariant_of-self : goal.invariant_of-self
invariant_of-self g c =
    let taken = rest-front c.args.self.now _ _ _ refl c.in_ok-character.ensures in
    record { range = c.args.self.now.range; rest = λ _. taken.0 }

pub returns-clause-steps : goal.returns-clause-steps
returns-clause-steps g c =
    let taken = rest-front c.args.self.now _ _ _ refl c.in_ok-character.ensures in
    record { lender = refl; leaves = refl; step = taken.1 }

pub returns-clause-goes : goal.returns-clause-goes
returns-clause-goes g c =
    let taken = rest-front c.args.self.now _ _ _ refl c.in_ok-character.ensures in
    let goes = ap length taken.1 in
    search rules
