-- The text of a report.
use Rattle.std.specs.Prelude.{ℕ, List, [], ◌++◌, codes, flat_map}
use Rattle.std.specs.Fmt.{decimal}
use Rattle.compact_callers.specs.declared.report.Row.{Row}
use Rattle.compact_callers.specs.declared.report.Rows.{Rows, End, Then'}

-- name, colon, number
abbrev pub row_line : Row → List ℕ
row_line row = row.name.text ++ codes ": " ++ decimal row.number ++ codes "\n"

-- a line for each row
abbrev pub report_of : List Row → List ℕ
report_of rows = flat_map row_line rows

-- the same for a linked list of rows
abbrev pub lines_of : Rows → List ℕ
lines_of End = []
lines_of (Then' row _ rest) = row_line row ++ lines_of rest
