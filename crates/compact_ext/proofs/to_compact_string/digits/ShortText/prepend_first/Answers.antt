-- The group has the digits of the number.
use Rattle.std.proofs.Common.{arith, sym}
use Rattle.compact_ext.proofs.Digits.{digits-fit, last-group}
use Rattle.compact_ext.proofs.to_compact_string.digits.ShortText.prepend_first.Goals as goal

pub prepend-requires-clause-group : goal.prepend-requires-clause-group
prepend-requires-clause-group c =
    let g = last-group _ _ _ c.pair.result c.pair-2.result c.requires.small c.count_pairs-pairs.ensures.none
    c.count_pairs-pairs.ensures.one c.count_first-count.ensures.len c.pair.ensures c.pair-2.ensures in
    rw (g.3, g.2) (digits-fit c.args.n (omega arith))

pub returns : goal.returns
returns c =
    let g = last-group _ _ _ c.pair.result c.pair-2.result c.requires.small c.count_pairs-pairs.ensures.none
    c.count_pairs-pairs.ensures.one c.count_first-count.ensures.len c.pair.ensures c.pair-2.ensures in
    rw (sym g.2, sym g.3) c.prepend.ensures
