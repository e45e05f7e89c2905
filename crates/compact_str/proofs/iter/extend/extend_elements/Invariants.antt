use Rattle.compact_str.specs.Collect.{Appends}
use Rattle.compact_str.proofs.iter.extend.extend_elements.Given as goal

-- the pieces so far are appended
abbrev pub invariant-loop-piece : goal.invariant-loop-piece
invariant-loop-piece g l = Appends g.P.Policy.growth g.T.Element.text l.fn.value l.yielded l.value
