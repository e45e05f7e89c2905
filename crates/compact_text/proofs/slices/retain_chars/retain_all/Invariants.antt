use Rattle.std.proofs.Common.{length, ◌-◌, ◌≤◌}
use Rattle.compact_text.specs.Text.{text_of}
use Rattle.compact_text.proofs.RetainLemmas.{HasRetained}
use Rattle.compact_text.proofs.slices.retain_chars.retain_all.Given as goal

abbrev pub invariant-loop-read : goal.invariant-loop-read
invariant-loop-read g l =
    goal.F-IsAlwaysCallable g l.keep
    × (l.kept ≤ l.read)
    × (l.read ≤ length l.slice)
    × HasRetained g.F.FnMut l.initial.keep (text_of l.initial.slice) l.keep l.slice l.kept l.read

abbrev pub decreases-loop-read : goal.decreases-loop-read
decreases-loop-read g l = length l.initial.slice - l.read

-- the same while one goes over characters of one byte
abbrev pub invariant-loop-character : goal.invariant-loop-character
invariant-loop-character g l =
    goal.F-IsAlwaysCallable g l.keep
    × (l.kept ≤ l.read)
    × (l.read ≤ length l.slice)
    × HasRetained g.F.FnMut l.fn.keep (text_of l.fn.slice) l.keep l.slice l.kept l.read
    × (l.initial.read ≤ l.read)

abbrev pub decreases-loop-character : goal.decreases-loop-character
decreases-loop-character g l = length l.initial.slice - l.read
