use Rattle.std.proofs.Common.{refl, arith}
use Rattle.compact_ext.proofs.PackedBuffers.{text-front, no_text-front}
use Rattle.compact_ext.proofs.wire.read.packed.Goals as goal

pub returns-in-Some-clause-bytes : goal.returns-in-Some-clause-bytes
returns-in-Some-clause-bytes c =
    let told = c.if-not-write_len_byte.ensures in
    text-front c.write_len_byte.new.room c.in-Some.value.text _ c.args.len c.in-Some.ensures.value.0 told.written
    told.front

pub returns-in-None-clause-err : goal.returns-in-None-clause-err
returns-in-None-clause-err c =
    let told = c.if-not-write_len_byte.ensures in
    let none = c.in-None.ensures.value in
    (refl, no_text-front c.write_len_byte.new.room _ c.args.len (omega arith) c.requires told.written told.front none)
