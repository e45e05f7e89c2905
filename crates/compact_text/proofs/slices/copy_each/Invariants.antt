use Rattle.std.proofs.Common.{◌≡◌, length, take}
use Rattle.compact_text.proofs.slices.copy_each.Given as goal

-- The first bytes are those of the source.
abbrev pub invariant-loop-i : goal.invariant-loop-i
invariant-loop-i l = (take l.i l.target ≡ take l.i l.source) × (length l.target ≡ length l.source)
