use Rattle.std.proofs.Common.{OnSome, IsSome}
use Rattle.compact_callers.proofs.lines_read.longest_line.Given as goal

-- known bytes stay known
abbrev pub invariant-lines : goal.invariant-lines
invariant-lines g l = OnSome (g.R.Read.remaining l.fn.reader) (IsSome (g.R.Read.remaining l.reader))
