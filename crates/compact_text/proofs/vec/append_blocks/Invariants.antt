use Rattle.std.proofs.Common.{◌≡◌, ◌+◌, ◌++◌, length}
use Rattle.std.specs.Vec.{vec_len, vec_capacity}
use Rattle.compact_text.proofs.vec.append_blocks.Given as goal

-- With what is left of the source, the bytes are those wanted.
abbrev pub invariant-copies : goal.invariant-copies
invariant-copies n l = (l.bytes.items ++ l.rest ≡ l.fn.bytes.items ++ l.fn.source)
    × (vec_len l.bytes + length l.rest ≡ vec_len l.fn.bytes + length l.fn.source)
    × (vec_capacity l.bytes ≡ vec_capacity l.fn.bytes)

abbrev pub decreases-copies : goal.decreases-copies
decreases-copies n l = length l.rest
