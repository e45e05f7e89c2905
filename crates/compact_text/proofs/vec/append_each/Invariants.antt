use Rattle.std.proofs.Common.{◌≡◌, ◌+◌, ◌++◌, take}
use Rattle.std.specs.Vec.{vec_len, vec_capacity}
use Rattle.compact_text.proofs.vec.append_each.Given as goal

-- The first bytes of the source follow the old bytes.
abbrev pub invariant-loop-i : goal.invariant-loop-i
invariant-loop-i l = (l.vec.items ≡ l.initial.vec.items ++ take l.i l.source)
    × (vec_len l.vec ≡ vec_len l.initial.vec + l.i)
    × (vec_capacity l.vec ≡ vec_capacity l.initial.vec)
