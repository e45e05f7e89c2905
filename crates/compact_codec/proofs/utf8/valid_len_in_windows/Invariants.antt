use Rattle.std.proofs.Common.{◌-◌, ◌≤◌, length, take, IsUtf8}
use Rattle.compact_codec.proofs.utf8.valid_len_in_windows.Given as goal

-- the windows that were passed are text
abbrev pub invariant-loop-at : goal.invariant-loop-at
invariant-loop-at l = record {
  within : l.at ≤ length l.bytes;
  text : IsUtf8 (take l.at l.bytes);
  wide : (64 ≤ l.width) × (l.width ≤ 8192);
}

abbrev pub decreases-loop-at : goal.decreases-loop-at
decreases-loop-at l = length l.bytes - l.at
