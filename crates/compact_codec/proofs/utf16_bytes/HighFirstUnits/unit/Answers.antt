use Rattle.std.proofs.Common.{◌+◌, ◌*◌, ◌∙◌, arith, refl}
use Rattle.compact_codec.specs.declared.utf16_bytes.ByteOrder.TheVariants.{BigEndian}
use Rattle.compact_codec.proofs.Utf16BytesLemmas.{unit_by_place, units_count}
use Rattle.compact_codec.proofs.utf16_bytes.HighFirstUnits.unit.Goals as goal

pub returns : goal.returns
returns c =
    let bytes = c.args.self.bytes.now in
    let at = c.args.at in
    c.code_unit.ensures
    ∙ unit_by_place BigEndian bytes at (2 * at) (2 * at + 1) refl refl
    (omega (arith, c.requires, units_count BigEndian bytes))
