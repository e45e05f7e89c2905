use Rattle.std.proofs.Common.{◌≡◌, take}
use Rattle.compact_uses.specs.Columns.{column_width}
use Rattle.compact_uses.proofs.report.column_width.Given as goal

abbrev pub invariant-loop-fields : goal.invariant-loop-fields
invariant-loop-fields l = l.width ≡ column_width (take l.fields-index l.table) l.column
