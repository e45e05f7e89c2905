use Rattle.std.proofs.Common.{arith}
use Rattle.std.proofs.lemmas.Grind.{common_steps}
use Rattle.compact_uses.proofs.RecordLemmas.{field_facts}
use Rattle.compact_uses.proofs.records.fields_of.Goals as goal

pub loop-field-preserved : goal.loop-field-preserved
loop-field-preserved c =
    let steps = rw c.in-Some.is at c.next.ensures.steps in
    record {
      same = grind (arith, common_steps);
      copied = grind (arith, common_steps, field_facts);
    }
