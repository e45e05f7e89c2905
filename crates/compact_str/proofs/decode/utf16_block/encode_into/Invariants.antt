use Rattle.std.proofs.Common.{◌≡◌, ◌≤◌, ◌+◌, ◌*◌, ◌-◌, ◌++◌, take, drop, length, IsUtf8}
use Rattle.compact_repr.specs.Text.{text_of}
use Rattle.compact_codec.specs.Utf16Text.{utf16_lossy_text}
use Rattle.compact_str.proofs.decode.utf16_block.encode_into.Given as goal

-- what was written and the text of what is left are the whole
abbrev pub invariant-loop-at : goal.invariant-loop-at
invariant-loop-at g l = record {
  order : l.from ≤ l.at;
  within : l.at ≤ length (g.U.Units.units l.units);
  room : l.len ≤ 256;
  none : l.at ≡ l.from → l.len ≡ 0;
  utf8 : IsUtf8 (take l.len l.buffer);
  text : text_of (take l.len l.buffer) ++ utf16_lossy_text (drop l.at (g.U.Units.units l.units))
      ≡ utf16_lossy_text (drop l.from (g.U.Units.units l.units));
}

abbrev pub decreases-loop-at : goal.decreases-loop-at
decreases-loop-at g l = length (g.U.Units.units l.units) - l.at

-- what was written and the text of what is left are the whole
abbrev pub invariant-loop-at-then-len-2 : goal.invariant-loop-at-then-len-2
invariant-loop-at-then-len-2 g l = record {
  order : l.from ≤ l.at;
  within : l.at ≤ length (g.U.Units.units l.units);
  room : l.len + 4 * (length (g.U.Units.units l.units) - l.at) ≤ 256;
  none : l.at ≡ l.from → l.len ≡ 0;
  utf8 : IsUtf8 (take l.len l.buffer);
  text : text_of (take l.len l.buffer) ++ utf16_lossy_text (drop l.at (g.U.Units.units l.units))
      ≡ utf16_lossy_text (drop l.from (g.U.Units.units l.units));
}

abbrev pub decreases-loop-at-then-len-2 : goal.decreases-loop-at-then-len-2
decreases-loop-at-then-len-2 g l = length (g.U.Units.units l.units) - l.at
