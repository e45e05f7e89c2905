use Rattle.std.proofs.Common.{ap, ◌∙◌, arith, map, bit_and, replicate, Fits, w8}
use Rattle.std.proofs.lemmas.Nat.{and_le_r, and_mask}
use Rattle.std.proofs.lemmas.Simd.{Each1-all, Each1-zip2, Each2-splat, zip2_splat, map-map}
use Rattle.compact_str.proofs.decode.utf16_run.low_bytes.Goals as goal

pub overflow_cast-result : goal.overflow_cast-result
overflow_cast-result c =
    Each1-zip2 bit_and (Fits w8) c.args.block (replicate 16 127)
    (Each2-splat (λ a b. Fits w8 (bit_and a b)) c.args.block 16 127
    (Each1-all (λ a. Fits w8 (bit_and a 127)) (λ a. record { fits = omega (arith, and_le_r a 127) }) c.args.block))

pub returns : goal.returns
returns c =
    ap (map _) (zip2_splat bit_and c.args.block 16 127 c.fits-block.0) ∙ map-map _ (λ u. bit_and u 127) c.args.block
    ∙ (λ i. map (λ u. and_mask u 7 i) c.args.block)
