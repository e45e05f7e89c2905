use Rattle.std.proofs.Common.{◌≤◌, take}
use Rattle.compact_edit.specs.Pushes.{PushesTo}
use Rattle.compact_edit.proofs.pushes.run_pushes.Given as goal

-- the texts so far are pushed
abbrev pub invariant-loop-text : goal.invariant-loop-text
invariant-loop-text g l = record {
  run : PushesTo g.row.P.Denot g.P.Policy.growth (take l.text-index l.texts) l.value l.moved l.refused;
  few : l.refused ≤ l.text-index;
}
