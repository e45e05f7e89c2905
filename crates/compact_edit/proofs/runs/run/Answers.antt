use Rattle.std.proofs.Common.{arith}
use Rattle.compact_edit.proofs.RunLemmas.{RunsTo-take_more}
use Rattle.compact_edit.proofs.runs.run.Goals as goal

pub loop-edit-preserved : goal.loop-edit-preserved
loop-edit-preserved g c = record {
  count = omega arith;
  room = omega arith;
  capacity = omega arith;
  run = rw c.push_reserved.ensures.items (RunsTo-take_more _ _ _ _ _ _ _ _ _ _ c.loop-edit-test.true c.edit-item.is
      c.loop-edit.invariant.run c.apply-reply.ensures);
}
