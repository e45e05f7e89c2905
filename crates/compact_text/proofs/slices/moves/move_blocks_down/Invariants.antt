use Rattle.std.proofs.Common.{◌≡◌, ◌-◌, ◌≤◌, drop}
use lib.Seq.{paste}
use Rattle.compact_text.proofs.slices.moves.move_blocks_down.Given as goal

-- the first `done` bytes have moved
abbrev pub invariant-moves : goal.invariant-moves
invariant-moves n l = (l.done ≤ l.count) × (l.slice ≡ paste l.fn.slice l.to (drop l.from l.fn.slice) l.done)

abbrev pub decreases-moves : goal.decreases-moves
decreases-moves n l = l.count - l.done
