use Rattle.std.proofs.Common.{◌≡◌, map, take}
use Rattle.compact_str.specs.Order.{text_in}
use Rattle.compact_uses.specs.Columns.{row_text}
use Rattle.compact_uses.proofs.report.aligned_rows.Given as goal

-- the lines so far are the rows of the records so far
abbrev pub invariant-loop-fields : goal.invariant-loop-fields
invariant-loop-fields l = map text_in l.lines.items ≡ map (λ fields. row_text l.widths.items fields.items)
    (take l.fields-index l.table)
