use Rattle.std.proofs.Common.{◌≡◌, ◌≤◌, ◌-◌, ◌++◌, drop, length}
use Rattle.compact_codec.specs.Utf16Text.{utf16_lossy_text}
use Rattle.compact_str.specs.Room.{IsPlacedBySize}
use Rattle.compact_str.proofs.decode.utf16.from_units_lossy.Given as goal

-- what was made and the text of what is left are the whole
abbrev pub invariant-loop-at : goal.invariant-loop-at
invariant-loop-at g l = record {
  within : l.at ≤ length (g.U.Units.units l.units);
  fitted : IsPlacedBySize l.made;
  text : l.made.text ++ utf16_lossy_text (drop l.at (g.U.Units.units l.units))
      ≡ utf16_lossy_text (g.U.Units.units l.units);
}

abbrev pub decreases-loop-at : goal.decreases-loop-at
decreases-loop-at g l = length (g.U.Units.units l.units) - l.at
