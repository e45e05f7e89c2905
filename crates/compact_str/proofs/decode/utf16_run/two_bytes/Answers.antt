use Rattle.std.proofs.Common.{◌+◌, ◌*◌, ◌/◌, ◌%◌, ◌^◌, ◌∙◌, ap, arith, bit_and}
use Rattle.std.proofs.lemmas.Simd.{zip2_splat, zip2_of_maps, splat_is_map}
use lib.Lanes.{number_l, digits_l}
use Rattle.compact_str.proofs.UnitRuns.{two_digits}
use Rattle.compact_str.proofs.decode.utf16_run.two_bytes.Goals as goal

pub returns : goal.returns
returns c =
    let block = c.args.block in
    let long = c.fits-block.0 in
    let splat = splat_is_map block 16 in
    let high = zip2_of_maps bit_and _ _ block (zip2_splat (λ a b. a / 2 ^ b) block 16 6 long) (splat 31 long) in
    let low = zip2_of_maps (λ a b. a * 2 ^ b % 2 ^ 16) _ _ block (zip2_splat bit_and block 16 63 long) (splat 8 long) in
    let first = zip2_of_maps (λ a b. (a + b) % 2 ^ 16) _ _ block (splat 32960 long) high in
    ap (λ l. digits_l 256 32 (number_l 65536 l)) (zip2_of_maps (λ a b. (a + b) % 2 ^ 16) _ _ block first low)
    ∙ two_digits block 32 (omega (arith, long))
