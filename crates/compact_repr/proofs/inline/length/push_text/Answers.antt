use Rattle.std.proofs.Common.{arith}
use Rattle.compact_repr.proofs.PackedEnds.{packed-appended}
use Rattle.compact_repr.proofs.inline.length.push_text.Goals as goal

pub returns-clause-pushed : goal.returns-clause-pushed
returns-clause-pushed c _ =
    rw (← c.as_bytes-source.ensures.value)
    (packed-appended c.args.bytes.now c.as_bytes-source.result.now _ _ c.requires c.in-Some.ensures.0
    (omega arith) (omega arith) (omega arith) (omega arith) c.as_bytes-source.ensures.utf8
    c.write_short.ensures.written c.write_short.ensures.after)
