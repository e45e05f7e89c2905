use Rattle.std.proofs.Common.{◌<◌}
use Rattle.compact_uses.proofs.RecordLemmas.{HasRead}
use Rattle.compact_uses.proofs.records.read_records.Given as goal

abbrev pub invariant-loop-row : goal.invariant-loop-row
invariant-loop-row g l = record {
  left : 0 < l.row-iterator.left;
  read : HasRead g.R.Read.remaining (g.R.Read.remaining l.fn.reader) l.fn.records.items l.records.items
      l.row-iterator.rdr;
}
