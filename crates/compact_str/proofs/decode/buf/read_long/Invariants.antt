use Rattle.std.proofs.Common.{◌≡◌, ◌++◌, length}
use Rattle.compact_str.proofs.decode.buf.read_long.Given as goal

-- what was read and what is left are all
abbrev pub invariant-loop-buf : goal.invariant-loop-buf
invariant-loop-buf g l = record {
  parts : l.bytes.items ++ g.B.Buf.unread l.buf ≡ g.B.Buf.unread l.initial.buf;
  kept : g.B.Buf.kept l.buf ≡ g.B.Buf.kept l.initial.buf;
}

abbrev pub decreases-loop-buf : goal.decreases-loop-buf
decreases-loop-buf g l = length (g.B.Buf.unread l.buf)
