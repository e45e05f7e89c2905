use Rattle.std.proofs.Common.{◌≡◌, ◌++◌, flat_map}
use Rattle.compact_callers.proofs.WholeRuns.{ran_to_end}
use Rattle.compact_callers.proofs.iterator.append_all.Goals as goal

pub returns : goal.returns
returns g c =
    ran_to_end _ _ _ _ _ c.loop-part.yielded (λ xs. c.loop-part.line.text ≡ c.args.line.now.text
    ++ flat_map g.T.Spelled.text xs)
    c.into_iter-part-iterator.ensures.into_iter_gives c.loop-part.yielded_by c.in-None.ensures.steps
    c.loop-part.invariant
