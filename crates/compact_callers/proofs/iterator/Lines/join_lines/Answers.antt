use Rattle.std.proofs.Common.{◌≡◌, ◌++◌, flat_map}
use Rattle.compact_str.specs.Text.{text_of}
use Rattle.compact_callers.proofs.WholeRuns.{ran_to_end}
use Rattle.compact_callers.proofs.iterator.Lines.join_lines.Goals as goal

pub returns : goal.returns
returns g c =
    ran_to_end _ _ _ _ _ c.loop-part.yielded (λ xs. c.loop-part.lines.text
    ≡ flat_map (λ part. g.Self.Item.Spelled.text part ++ text_of c.args.end.now) xs)
    c.into_iter-part-iterator.ensures.into_iter_gives c.loop-part.yielded_by c.in-None.ensures.steps
    c.loop-part.invariant
