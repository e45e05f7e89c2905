use Rattle.std.proofs.Common.{◌≡◌, ◌++◌, flat_map}
use Rattle.compact_str.specs.Text.{text_of}
use Rattle.compact_callers.proofs.iterator.Lines.join_lines.Given as goal

-- what came so far, each with its end
abbrev pub invariant-loop-part : goal.invariant-loop-part
invariant-loop-part g l = l.lines.text ≡ flat_map (λ part. g.Self.Item.Spelled.text part ++ text_of l.end) l.yielded
