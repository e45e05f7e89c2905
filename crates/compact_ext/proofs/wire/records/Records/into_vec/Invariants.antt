use Rattle.compact_ext.specs.WireRecords.{records_left, ConsumesForms}
use Rattle.compact_ext.proofs.wire.records.Records.into_vec.Given as goal

-- the forms of the texts so far were taken
abbrev pub invariant-loop-item : goal.invariant-loop-item
invariant-loop-item g l = ConsumesForms (records_left g.R.Read.remaining l.fn.self)
    (records_left g.R.Read.remaining l.item-iterator) l.texts.items
