use Rattle.std.proofs.Common.{◌≡◌, ◌≤◌, ◌++◌, flat_map}
use Rattle.std.specs.Prelude.{string_bytes}
use Rattle.std.specs.String.{string_capacity}
use Rattle.compact_repr.specs.Text.{text_of}
use Rattle.compact_str.proofs.iter.string.append_texts.Given as goal

-- the items so far are appended, and no capacity was given back
abbrev pub invariant-loop-item : goal.invariant-loop-item
invariant-loop-item g l = record {
  text : text_of (string_bytes l.line) ≡ text_of (string_bytes l.fn.line) ++ flat_map g.T.AsText.text l.yielded;
  capacity : string_capacity l.fn.line ≤ string_capacity l.line;
}
