use Rattle.std.proofs.Common.{◌-◌, ◌^◌, ◌||◌, cond, ltb, leb, arith}
use Rattle.std.proofs.lemmas.Simd.{zip2_splat, zip2_splat_left}
use Rattle.compact_str.proofs.UnitRuns.{either_mask, first_of}
use Rattle.compact_str.proofs.decode.utf16_run.two_byte_count.Goals as goal

pub returns : goal.returns
returns c =
    let block = c.args.block in
    let long = c.fits-block.0 in
    first_of (λ u. ltb u 128 || leb 2048 u) block _ c.first_set.result long
    (either_mask (λ u. ltb u 128) (leb 2048) block (omega arith) (zip2_splat _ block 16 128 long)
    (zip2_splat_left (λ a b. cond (leb a b) (2 ^ 16 - 1) 0) 2048 16 block long))
    c.first_set.ensures
