use Rattle.compact_str.specs.Value.{placed_text}
use Rattle.compact_str.proofs.ForCallers.{one_text}
use Rattle.compact_ext.specs.Digits.{number_text}
use Rattle.compact_ext.proofs.NumberTexts.{number-is_packed}
use Rattle.compact_ext.proofs.to_compact_string.integers.number_string.Goals as goal

pub unreachable-requires : goal.unreachable-requires
unreachable-requires c =
    c.in-None.ensures.value (number_text c.args.is_negative c.args.magnitude)
    (number-is_packed _ _ _ c.ranges.magnitude.fits c.packed_number.ensures)

pub returns : goal.returns
returns c =
    let text = one_text _ _ _ c.in-Some.ensures.value.0 (number-is_packed _ _ _ c.ranges.magnitude.fits
    c.packed_number.ensures) in
    λ i. placed_text (text i) (c.in-Some.ensures.value.1 i)
