use Rattle.compact_ext.specs.WireRecords.{records_left, ConsumesTexts}
use Rattle.compact_callers.proofs.wire.read_texts.Given as goal

-- the texts so far are those of what was taken
abbrev pub invariant-loop-item : goal.invariant-loop-item
invariant-loop-item g l = ConsumesTexts (g.R.Read.remaining l.fn.reader)
    (records_left g.R.Read.remaining l.item-iterator) l.texts.items
