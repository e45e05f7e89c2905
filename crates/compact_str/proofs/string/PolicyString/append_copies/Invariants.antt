use Rattle.std.proofs.Common.{◌≡◌, ◌≤◌, ◌-◌}
use Rattle.compact_repr.specs.Text.{text_of}
use Rattle.compact_str.specs.Edits.{repeated_text}
use Rattle.compact_str.proofs.string.PolicyString.append_copies.Given as goal

-- `done` copies of the piece are stored
abbrev pub invariant-loop-done : goal.invariant-loop-done
invariant-loop-done g l = record {
  text : l.self-inside.repr.text ≡ repeated_text l.done (text_of l.piece);
  placement : l.self-inside.repr.placement ≡ l.fn.self.placement;
  some : 1 ≤ l.done;
  most : l.done ≤ l.count;
}

abbrev pub decreases-loop-done : goal.decreases-loop-done
decreases-loop-done g l = l.count - l.done
