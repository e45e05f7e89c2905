use Rattle.std.proofs.Common.{◌≡◌, ◌++◌, List, ℕ}
use Rattle.std.specs.Io.KnownBytes.{Appends}
use Rattle.compact_lines.proofs.write.write_whole.Given as goal

-- what was written, and what is left
abbrev pub invariant-loop : goal.invariant-loop
invariant-loop g l =
    (done : List ℕ) × (l.fn.bytes ≡ done ++ l.rest) × Appends (g.W.Write.contents l.fn.writer)
    (g.W.Write.contents l.writer) done
