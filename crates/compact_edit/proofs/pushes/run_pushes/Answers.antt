use Rattle.std.proofs.Common.{arith}
use Rattle.compact_edit.proofs.BytesMoved.{paid-fits}
use Rattle.compact_edit.proofs.PushLemmas.{pushes-done, pushes-refused, pushes-all, pushes-text, pushes-fit}
use Rattle.compact_edit.proofs.PushLemmas.{pushes-paid}
use Rattle.compact_edit.proofs.pushes.run_pushes.Goals as goal
use Rattle.compact_edit.proofs.pushes.run_pushes.Goals.{in-Ok, in-Err}

pub overflow_add-moved : goal.overflow_add-moved
overflow_add-moved g c =
    let h = paid-fits _ _ c.push_and_count.new.value _ _ g.P.Policy.lawful
    (pushes-paid _ _ _ _ _ g.P.Policy.lawful c.loop-text.invariant.run) c.in-Ok.ensures.bytes in
    omega (arith, h)

pub loop-text-preserved : goal.loop-text-preserved
loop-text-preserved g c =
    let i = c.loop-text.invariant in
    elim c.match-push_and_count.branch [
      | in-Ok w ↦
          let e = w.in-Ok.ensures in
          record {
            run = pushes-done _ _ _ _ _ _ _ _ _ _ _ _ c.loop-text-test.true i.run e.ok e.bytes w.moved-is w.refused-is;
            few = omega (arith, w.refused-is, i.few);
          }
      | in-Err w ↦
          record {
            run = pushes-refused _ _ _ _ _ _ _ _ _ _ _ w.in-Err.field-0 c.loop-text-test.true i.run
                (w.in-Err.ensures.err, w.in-Err.ensures.allocates) w.moved-is w.refused-is;
            few = omega (arith, w.refused-is, i.few);
          }
    ]

pub returns-clause-run : goal.returns-clause-run
returns-clause-run g c = pushes-all _ _ _ _ _ _ _ c.loop-text-test.false c.loop-text.invariant.run

pub returns-clause-text : goal.returns-clause-text
returns-clause-text g c = pushes-text _ _ _ _ _ (pushes-all _ _ _ _ _ _ _ c.loop-text-test.false
    c.loop-text.invariant.run)

pub returns-clause-succeeds : goal.returns-clause-succeeds
returns-clause-succeeds g c = pushes-fit _ _ _ _ _ (pushes-all _ _ _ _ _ _ _ c.loop-text-test.false
    c.loop-text.invariant.run)

pub returns-clause-moved : goal.returns-clause-moved
returns-clause-moved g c = let paid = pushes-paid _ _ _ _ _ g.P.Policy.lawful c.loop-text.invariant.run in paid.by_text

pub returns-clause-capacity : goal.returns-clause-capacity
returns-clause-capacity g c = let paid = pushes-paid _ _ _ _ _ g.P.Policy.lawful c.loop-text.invariant.run in
    paid.capacity
