-- The row has the number of the packed text.
use Rattle.std.proofs.Common.{rules}
use Rattle.compact_ext.proofs.Digits.{number-array}
use Rattle.compact_ext.proofs.to_compact_string.digits.packed_number.Goals as goal

pub returns : goal.returns
returns c =
    number-array c.args.is_negative c.args.magnitude _ _ _ _ c.packed.result c.ranges.magnitude.fits c.from.ensures
    c.count_digits.ensures.count c.digits_of.ensures
    c.prepend_sign.ensures (search rules) (λ i. search rules) c.packed.ensures
