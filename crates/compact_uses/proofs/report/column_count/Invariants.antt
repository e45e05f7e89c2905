use Rattle.std.proofs.Common.{◌≡◌, take}
use Rattle.compact_uses.specs.Columns.{column_count}
use Rattle.compact_uses.proofs.report.column_count.Given as goal

abbrev pub invariant-loop-fields : goal.invariant-loop-fields
invariant-loop-fields l = l.count ≡ column_count (take l.fields-index l.table)
