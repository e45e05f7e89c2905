use Rattle.std.proofs.Common.{◌≤◌, ◌*◌, ◌-◌, length}
use Rattle.compact_str.proofs.decode.utf16_block.utf8_len_hint.Given as goal

abbrev pub invariant-loop-at : goal.invariant-loop-at
invariant-loop-at g l = record { within : l.at ≤ length (g.U.Units.units l.units); room : l.room ≤ 3 * l.at }

abbrev pub decreases-loop-at : goal.decreases-loop-at
decreases-loop-at g l = length (g.U.Units.units l.units) - l.at
