-- An ASCII character appended, a byte that is its own character.
use Rattle.std.proofs.Common.{ℕ, ◌<◌, [], ◌∷◌, zero, suc, arith}
use Rattle.std.specs.Str.{IsAscii}

is_ascii : (byte : ℕ) → byte < 128 → IsAscii (byte ∷ [])
is_ascii byte h zero = h
is_ascii byte h (suc i) = omega arith
