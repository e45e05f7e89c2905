use Rattle.std.proofs.Common.{◌≡◌, ◌+◌, ◌-◌, ◌≤◌, drop}
use lib.Seq.{paste}
use Rattle.compact_text.proofs.slices.moves.move_blocks_up.Given as goal

-- all but the first `left` bytes have moved
abbrev pub invariant-moves : goal.invariant-moves
invariant-moves n l = (l.left ≤ l.count) × (l.slice ≡ paste l.fn.slice (l.to + l.left)
    (drop (l.from + l.left) l.fn.slice) (l.count - l.left))

abbrev pub decreases-moves : goal.decreases-moves
decreases-moves n l = l.left
