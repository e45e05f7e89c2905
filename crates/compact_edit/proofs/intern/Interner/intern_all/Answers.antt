use Rattle.std.proofs.Common.{arith, inr}
use Rattle.std.proofs.lemmas.Result.{err_from_is_err_and}
use Rattle.compact_edit.proofs.InternLemmas.{takes-more, stops-at, still-distinct}
use Rattle.compact_edit.proofs.intern.Interner.intern_all.Goals as goal

pub returns-in_err-number-clause-err : goal.returns-in_err-number-clause-err
returns-in_err-number-clause-err c =
    let (error, is, same) = err_from_is_err_and c.from_residual.result c.from_residual.ensures.1 in
    let fails = c.in_err-number.ensures in
    let so_far = c.loop-text.invariant in
    rw (is, same)
    (inr (stops-at _ c.loop-text.text-index _ _ _ _ _ _ _ so_far.takes c.loop-text-test.true fails.err fails.cause))

pub loop-text-preserved : goal.loop-text-preserved
loop-text-preserved c =
    let known = c.in_ok-number.ensures in
    let so_far = c.loop-text.invariant in
    record {
      room = omega arith;
      capacity = omega arith;
      distinct = still-distinct _ _ _ known.names so_far.distinct;
      takes =
          takes-more _ _ _ _ _ _ _ _ _ _ so_far.takes c.loop-text-test.true so_far.distinct known.names known.number
          c.push_reserved.ensures.items;
      kept = λ n name at. known.kept n name (so_far.kept n name at);
    }
