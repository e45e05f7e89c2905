use Rattle.std.proofs.Common.{◌≡◌, ◌≤◌, slice_index, arith}
use Rattle.std.proofs.lemmas.Bool.{OnFalse_from}
use Rattle.std.proofs.lemmas.Bool.Decides.{nat_tests}
use Rattle.compact_ext.proofs.PackedBuffers.{no_text-high}
use Rattle.compact_ext.proofs.wire.read.write_len_byte.Goals as goal

pub returns-clause-invalid : goal.returns-clause-invalid
returns-clause-invalid c = OnFalse_from _ _ (λ other.
    let high : 192 ≤ slice_index c.args.room.now 23 = grind (arith, nat_tests, other) in
    let full : c.args.len ≡ 24 = omega (arith, c.requires, c.if-len-lt-INLINE_CAPACITY.false) in
    no_text-high c.args.room.now c.args.len c.told-room full high)
