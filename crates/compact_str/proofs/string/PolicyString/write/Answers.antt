-- What was shown to a text that began empty is appended.
use Rattle.compact_str.proofs.OutputLemmas.{shown-pushed}
use Rattle.compact_str.proofs.string.PolicyString.write.Goals as goal

pub returns-in-Ok-clause-text : goal.returns-in-Ok-clause-text
returns-in-Ok-clause-text g c =
    (shown-pushed _ _ _ _ _ _ c.push_onto.result c.in-Ok.ensures.writes c.for_target-shown.ensures c.push_onto.ensures.text
    c.push_onto.ensures.place c.push_onto.ensures.err).text

pub returns-in-Ok-clause-bytes : goal.returns-in-Ok-clause-bytes
returns-in-Ok-clause-bytes g c =
    (shown-pushed _ _ _ _ _ _ c.push_onto.result c.in-Ok.ensures.writes c.for_target-shown.ensures c.push_onto.ensures.text
    c.push_onto.ensures.place c.push_onto.ensures.err).bytes

pub returns-in-Ok-clause-place : goal.returns-in-Ok-clause-place
returns-in-Ok-clause-place g c =
    (shown-pushed _ _ _ _ _ _ c.push_onto.result c.in-Ok.ensures.writes c.for_target-shown.ensures c.push_onto.ensures.text
    c.push_onto.ensures.place c.push_onto.ensures.err).place
