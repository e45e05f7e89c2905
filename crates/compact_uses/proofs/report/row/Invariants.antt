use Rattle.std.proofs.Common.{◌≡◌, take}
use Rattle.compact_uses.specs.Columns.{row_text}
use Rattle.compact_uses.proofs.report.row.Given as goal

-- the line has the cells of the columns so far
abbrev pub invariant-loop-column : goal.invariant-loop-column
invariant-loop-column l = l.line.text ≡ row_text (take l.column l.widths) l.fields.items
