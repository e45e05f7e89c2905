use Rattle.std.proofs.Common.{◌≡◌}
use Rattle.compact_uses.specs.Columns.{widths_before}
use Rattle.compact_uses.proofs.report.widths_of.Given as goal

abbrev pub invariant-loop-column : goal.invariant-loop-column
invariant-loop-column l = l.widths.items ≡ widths_before l.table l.column
