use Rattle.std.proofs.Common.{◌≡◌}
use Rattle.compact_uses.specs.Entries.{entries_before}
use Rattle.compact_uses.proofs.entries.entries.Given as goal

-- the entries so far
abbrev pub invariant-loop-name : goal.invariant-loop-name
invariant-loop-name l = l.entries.items ≡ entries_before l.tokens l.name
