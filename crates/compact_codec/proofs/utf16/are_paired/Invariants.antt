use Rattle.std.proofs.Common.{◌≡◌, ℕ, ◌<◌, ◌≤◌, ◌-◌, ◌^◌, get_or, length, drop, false}
use Rattle.std.specs.Prelude.{◌||◌}
use Rattle.compact_codec.proofs.UnpairedSurrogates.{has_unpaired}
use Rattle.compact_codec.proofs.utf16.are_paired.Given as goal

-- the result so far and that of the rest are the result of all
abbrev pub invariant-loop-at : goal.invariant-loop-at
invariant-loop-at g l = record {
  within : l.at ≤ length (g.U.Units.units l.units);
  fit : (k : ℕ) → k < l.at → get_or (g.U.Units.units l.units) k 0 < 2 ^ 16;
  found : (l.unpaired || has_unpaired l.after_high (drop l.at (g.U.Units.units l.units)))
      ≡ has_unpaired false (g.U.Units.units l.units);
}

abbrev pub decreases-loop-at : goal.decreases-loop-at
decreases-loop-at g l = length (g.U.Units.units l.units) - l.at
