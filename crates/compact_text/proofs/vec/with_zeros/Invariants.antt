use Rattle.std.proofs.Common.{◌≡◌, ◌-◌, ◌++◌, replicate}
use Rattle.std.specs.Vec.{vec_len, vec_capacity}
use Rattle.compact_text.proofs.vec.with_zeros.Given as goal

-- The counter is the vector's length, and zeros follow the old bytes.
abbrev pub invariant-loop : goal.invariant-loop
invariant-loop l = (vec_len l.vec ≡ l.counter)
    × (l.vec.items ≡ l.initial.vec.items ++ replicate (l.counter - vec_len l.initial.vec) 0)
    × (vec_capacity l.vec ≡ vec_capacity l.initial.vec)
