use Rattle.std.proofs.Common.{◌≡◌, ◌∷◌, [], ◌++◌, Ok, Err, refl, sym, subst, inl, inr, rules}
use Rattle.std.proofs.lemmas.Result.{err_from_is_err_and}
use Rattle.compact_ext.specs.declared.wire.WireError.TheVariants.{Reserve}
use Rattle.compact_ext.specs.WireRecords.{ConsumesForms, FailsAtSome, records_left}
use Rattle.compact_ext.proofs.WireRecordLemmas.{records-back, takes-more, takes-all}
use Rattle.compact_ext.proofs.wire.records.Records.into_vec.Goals as goal

-- one more text was taken
pub loop-item-preserved : goal.loop-item-preserved
loop-item-preserved g c =
    let took = rw c.in_ok-text.was at c.in-Some.ensures.steps in
    let grown : c.push.new.self.items ≡ c.loop-item.texts.items ++ c.in_ok-text.text ∷ [] = search rules in
    subst (ConsumesForms _ _) (sym grown) (takes-more _ _ _ _ c.in_ok-text.text c.loop-item.invariant took)

-- an error of `next`, after the texts so far
pub returns-in_err-text-clause-back : goal.returns-in_err-text-clause-back
returns-in_err-text-clause-back g c =
    let (error, is, same) = err_from_is_err_and c.from_residual.result c.from_residual.ensures.1 in
    let fails : FailsAtSome (records_left g.R.Read.remaining c.args.self) c.in_err-text.field-0.0 = inl record {
      texts = c.loop-item.texts.items;
      mid = _;
      new = _;
      took = c.loop-item.invariant;
      fails = rw c.in_err-text.was at c.in-Some.ensures.steps;
    } in
    rw (is, same) (records-back _ (Err c.in_err-text.field-0.0) tt tt fails)

-- no room for one more text
pub returns-then-is_err-clause-err : goal.returns-then-is_err-clause-err
returns-then-is_err-clause-err g c =
    let took = rw c.in_ok-text.was at c.in-Some.ensures.steps in
    inr record {
      texts = c.loop-item.texts.items;
      last = c.in_ok-text.text;
      mid = _;
      took = takes-more _ _ _ _ c.in_ok-text.text c.loop-item.invariant took;
      refused = refl;
    }

pub returns-then-is_err-clause-back : goal.returns-then-is_err-clause-back
returns-then-is_err-clause-back g c =
    records-back _ (Err (Reserve (record {}))) tt tt (returns-then-is_err-clause-err g c)

pub returns-clause-back : goal.returns-clause-back
returns-clause-back g c =
    let took = c.loop-item.invariant in
    records-back _ (Ok c.loop-item.texts) (takes-all _ _ _ took c.in-None.ensures.steps.end) took.fit tt
