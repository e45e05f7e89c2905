use Rattle.std.proofs.Common.{◌≡◌, ◌≤◌, ◌-◌, length, take}
use Rattle.std.specs.Io.KnownBytes.{Consumes}
use Rattle.compact_ext.proofs.wire.read.read_full.Given as goal

-- the bytes read so far are at the front
abbrev pub invariant-loop-at : goal.invariant-loop-at
invariant-loop-at g l = (length l.buffer ≡ length l.initial.buffer) × (l.at ≤ length l.buffer)
    × Consumes (g.R.Read.remaining l.initial.reader) (g.R.Read.remaining l.reader) (take l.at l.buffer)

abbrev pub decreases-loop-at : goal.decreases-loop-at
decreases-loop-at g l = length l.initial.buffer - l.at
