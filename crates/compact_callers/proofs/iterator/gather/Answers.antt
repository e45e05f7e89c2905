use Rattle.std.proofs.Common.{flat_map}
use Rattle.compact_callers.proofs.WholeRuns.{after_nothing, sizes}
use Rattle.compact_callers.proofs.iterator.gather.Goals as goal

pub returns-clause-text : goal.returns-clause-text
returns-clause-text g c =
    let ran = c.in_ok-append_all.ensures in (
      ran.0,
      ran.1,
      ran.2,
      after_nothing c.default-line.result c.append_all.new.line.text
          (flat_map g.T.Spelled.text ran.0.items) c.default-line.ensures.value ran.3,
    )

pub returns-clause-size : goal.returns-clause-size
returns-clause-size g c =
    let ran = c.in_ok-append_all.ensures in (
      ran.0,
      ran.1,
      ran.2,
      sizes g.T.Spelled.text c.append_all.new.line.text ran.0.items
          (after_nothing c.default-line.result c.append_all.new.line.text (flat_map g.T.Spelled.text ran.0.items)
          c.default-line.ensures.value ran.3),
    )
