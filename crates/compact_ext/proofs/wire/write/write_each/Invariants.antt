use Rattle.std.proofs.Common.{◌≡◌, ◌++◌, length, ℕ, List}
use Rattle.std.specs.Io.KnownBytes.{Appends}
use Rattle.compact_ext.proofs.wire.write.write_each.Given as goal

-- what was written, and what is left
abbrev pub invariant-loop-rest : goal.invariant-loop-rest
invariant-loop-rest g l = (done : List ℕ) × (l.initial.rest ≡ done ++ l.rest)
    × Appends (g.W.Write.contents l.initial.writer) (g.W.Write.contents l.writer) done

abbrev pub decreases-loop-rest : goal.decreases-loop-rest
decreases-loop-rest g l = length l.rest
