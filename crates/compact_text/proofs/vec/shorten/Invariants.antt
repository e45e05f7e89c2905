use Rattle.std.proofs.Common.{◌≡◌, ◌-◌, take}
use Rattle.std.specs.Vec.{vec_len, vec_capacity}
use Rattle.compact_text.proofs.vec.shorten.Given as goal

-- The last bytes, as many as counted, are gone.
abbrev pub invariant-loop : goal.invariant-loop
invariant-loop l = (l.bytes.items ≡ take (vec_len l.initial.bytes - l.counter) l.initial.bytes.items)
    × (vec_len l.bytes ≡ vec_len l.initial.bytes - l.counter)
    × (vec_capacity l.bytes ≡ vec_capacity l.initial.bytes)
