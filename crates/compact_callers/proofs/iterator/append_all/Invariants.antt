use Rattle.std.proofs.Common.{◌≡◌, ◌++◌, flat_map}
use Rattle.compact_callers.proofs.iterator.append_all.Given as goal

-- the items so far follow the first text
abbrev pub invariant-loop-part : goal.invariant-loop-part
invariant-loop-part g l = l.line.text ≡ l.initial.line.text ++ flat_map g.T.Spelled.text l.yielded
