use Rattle.std.proofs.Common.{arith}
use Rattle.compact_repr.proofs.PackedTexts.{packs-marked, packs-full}
use Rattle.compact_repr.proofs.inline.length.write_len.Goals as goal

pub returns-then-len-lt-INLINE_CAPACITY : goal.returns-then-len-lt-INLINE_CAPACITY
returns-then-len-lt-INLINE_CAPACITY c = packs-marked c.args.bytes.now c.args.len (omega arith) (omega arith) c.requires.text

pub returns-else-len-lt-INLINE_CAPACITY : goal.returns-else-len-lt-INLINE_CAPACITY
returns-else-len-lt-INLINE_CAPACITY c = packs-full c.args.bytes.now c.args.len (omega arith) (omega arith) c.requires.text
