use Rattle.std.proofs.Common.{ℕ, List, ap}
use Rattle.std.specs.Borrow.{Bor}
use Rattle.compact_lines.proofs.LineLemmas.{written-more, written-same}
use Rattle.compact_lines.proofs.write.write_whole.Goals.{in-Ok, in-Err+else-ne}
use Rattle.compact_lines.proofs.write.write_whole.Goals as goal

pub loop-preserved : goal.loop-preserved
loop-preserved g c =
    let (done, split, first) = c.loop.invariant in
    elim c.match-write.branch [
      | in-Ok w ↦ written-more _ done c.loop.rest.now _ w.in-Ok.count _ _ _ split
          (ap (λ (r : Bor (List ℕ)). r.now) w.rest-is) first w.in-Ok.ensures.bytes
      | in-Err+else-ne w ↦ written-same _ done c.loop.rest.now _ _ _ _ split
          (ap (λ (r : Bor (List ℕ)). r.now) w.rest-is) first w.in-Err.ensures.bytes
    ]
