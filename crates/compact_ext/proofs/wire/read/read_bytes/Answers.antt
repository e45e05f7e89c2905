use Rattle.std.proofs.Common.{ℕ, arith, length-take}
use Rattle.std.proofs.lemmas.Result.{err_from_is_err_and}
use Rattle.compact_ext.proofs.WireLemmas.{stops-later}
use Rattle.compact_ext.proofs.wire.read.read_bytes.Goals as goal

pub returns-in_err-read_full-clause-err : goal.returns-in_err-read_full-clause-err
returns-in_err-read_full-clause-err g c =
    let (error, is, same) = err_from_is_err_and c.from_residual.result c.from_residual.ensures.1 in
    let stops = c.in_err-read_full.ensures.err in
    let room = c.if-not-make_room.ensures.len in
    let so_far = c.loop-bytes.bytes.items in
    let took = c.loop-bytes.invariant.2 in
    rw (is, same)
    (stops-later _ _ _ so_far _ c.args.len _ took stops (omega (arith, length-take {A = ℕ}, room)))
