use Rattle.std.proofs.Common.{◌≡◌, ◌+◌, ◌-◌, ◌≤◌, ◌++◌, take, drop}
use Rattle.std.specs.Vec.{vec_len, vec_capacity}
use Rattle.compact_text.proofs.vec.append_blocks_within.Given as goal

-- The first blocks of the part follow the old bytes.
abbrev pub invariant-copies : goal.invariant-copies
invariant-copies n l = (l.done ≤ l.count)
    × (l.bytes.items ≡ l.fn.bytes.items ++ take l.done (drop l.start l.fn.bytes.items))
    × (vec_len l.bytes ≡ vec_len l.fn.bytes + l.done)
    × (vec_capacity l.bytes ≡ vec_capacity l.fn.bytes)

abbrev pub decreases-copies : goal.decreases-copies
decreases-copies n l = l.count - l.done
