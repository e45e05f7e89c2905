use Rattle.std.proofs.Common.{◌≡◌, ◌++◌, ◌-◌, ◌≤◌, max, replicate}
use Rattle.compact_uses.proofs.report.push_cell.Given as goal

-- the field is followed by a space for each place passed
abbrev pub invariant-loop-place : goal.invariant-loop-place
invariant-loop-place l = record {
  text : l.line.text ≡ l.initial.line.text ++ replicate (l.place - l.taken) 32;
  within : l.place ≤ max l.taken l.width;
}
