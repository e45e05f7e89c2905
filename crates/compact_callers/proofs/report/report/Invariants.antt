use Rattle.std.proofs.Common.{◌≡◌, take}
use Rattle.compact_callers.specs.Reports.{report_of}
use Rattle.compact_callers.proofs.report.report.Given as goal

-- the lines of the rows so far
abbrev pub invariant-loop-row : goal.invariant-loop-row
invariant-loop-row l = l.report.text ≡ report_of (take l.row-index l.rows)
