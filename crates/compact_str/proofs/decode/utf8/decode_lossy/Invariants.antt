use Rattle.std.proofs.Common.{◌≡◌, ◌+◌, ◌++◌, length}
use Rattle.compact_repr.specs.Text.{text_of}
use Rattle.compact_codec.specs.Utf8Text.{utf8_lossy_text, replacement_text}
use Rattle.compact_str.specs.Room.{IsPlacedBySize}
use Rattle.compact_str.proofs.decode.utf8.decode_lossy.Given as goal

-- what was made and the text of what is left are the whole
abbrev pub invariant-loop-made : goal.invariant-loop-made
invariant-loop-made l = record {
  fitted : IsPlacedBySize l.made;
  text : l.made.text ++ (text_of l.chunk.valid.now ++ (replacement_text l.chunk.invalid.now
      ++ utf8_lossy_text l.chunk.rest.now))
      ≡ utf8_lossy_text l.bytes;
  whole : length l.chunk.invalid.now ≡ 0 → length l.chunk.rest.now ≡ 0;
}

abbrev pub decreases-loop-made : goal.decreases-loop-made
decreases-loop-made l = length l.chunk.invalid.now + length l.chunk.rest.now
