use Rattle.std.proofs.Common.{◌≡◌, ◌*◌, ◌%◌, ◌^◌, take, fold}
use Rattle.std.specs.Prelude.{bit_xor}
use Rattle.compact_bench.proofs.hasher.FnvHasher.write.Given as goal

-- the state has taken up the bytes so far
abbrev pub invariant-loop-byte : goal.invariant-loop-byte
invariant-loop-byte l = l.self.0 ≡ fold (λ state byte. (bit_xor state byte * 1099511628211) % 2 ^ 64) l.initial.self.0
    (take l.byte-index l.bytes)
