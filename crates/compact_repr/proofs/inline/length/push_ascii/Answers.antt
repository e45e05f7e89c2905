use Rattle.std.proofs.Common.{arith}
use Rattle.compact_repr.proofs.PackedEnds.{packed-pushed}
use Rattle.compact_repr.proofs.inline.length.push_ascii.Goals as goal

pub returns : goal.returns
returns c =
    packed-pushed c.args.bytes.now c.args.len c.args.byte (omega arith) c.requires.len c.requires.room c.requires.ascii
    c.requires.packed
