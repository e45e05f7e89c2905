use Rattle.std.proofs.Common.{◌+◌, ◌*◌, ◌/◌, ◌%◌, ◌^◌, ◌∙◌, ap, bit_and, take, refl}
use Rattle.std.proofs.lemmas.Simd.{zip2_of_maps, splat_is_map}
use lib.Lanes.{number_l, digits_l}
use Rattle.compact_str.proofs.UnitRuns.{three_of, without_fourths}
use Rattle.compact_str.proofs.decode.utf16_run.three_bytes.Goals as goal

pub returns : goal.returns
returns c =
    let units = c.args.units in
    let long = c.fits-units.0 in
    let splat = splat_is_map units 4 in
    let high = zip2_of_maps (λ a b. a / 2 ^ b) _ _ units refl (splat 12 long) in
    let middle = zip2_of_maps (λ a b. a * 2 ^ b % 2 ^ 32) _ _ units
    (zip2_of_maps bit_and _ _ units (zip2_of_maps (λ a b. a / 2 ^ b) _ _ units refl (splat 6 long)) (splat 63 long))
    (splat 8 long) in
    let low = zip2_of_maps (λ a b. a * 2 ^ b % 2 ^ 32) _ _ units (zip2_of_maps bit_and _ _ units refl (splat 63 long))
    (splat 16 long) in
    let first = zip2_of_maps (λ a b. (a + b) % 2 ^ 32) _ _ units (splat 8421600 long) high in
    let second = zip2_of_maps (λ a b. (a + b) % 2 ^ 32) _ _ units first middle in
    ap (λ l. take 12 (without_fourths (digits_l 256 16 (number_l (2 ^ 32) l))))
    (zip2_of_maps (λ a b. (a + b) % 2 ^ 32) _ _ units second low)
    ∙ three_of units long c.fits-units.1
