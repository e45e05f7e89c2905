-- What was shown to a text that began empty is appended.
use Rattle.compact_str.proofs.OutputLemmas.{shown-pushed}
use Rattle.compact_str.proofs.string.PolicyString.writeln.Goals as goal

pub returns-in-Ok : goal.returns-in-Ok
returns-in-Ok g c =
    shown-pushed _ _ _ _ _ _ c.push_onto.result c.in-Ok.ensures.writes c.for_target-shown.ensures c.push_onto.ensures.text
    c.push_onto.ensures.place c.push_onto.ensures.err
