use Rattle.compact_uses.proofs.RowLemmas.{lines-width}
use Rattle.compact_uses.proofs.report.aligned_rows.Goals as goal

pub returns-clause-widths : goal.returns-clause-widths
returns-clause-widths c = lines-width _ c.args.table.now _ c.loop-fields.fields-index c.in_ok-widths.ensures.widths
    c.loop-fields-test.false c.loop-fields.invariant
