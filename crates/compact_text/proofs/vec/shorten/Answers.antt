use Rattle.std.proofs.Common.{arith, sym, ◌∙◌, ◌≡◌, ◌+◌, ◌-◌}
use Rattle.std.specs.Vec.{vec_len}
use Rattle.compact_text.proofs.Appends.{one_less}
use Rattle.compact_text.proofs.vec.shorten.Goals as goal

pub loop-preserved : goal.loop-preserved
loop-preserved c =
    let all = c.loop.invariant in
    let last = c.take_last.ensures in
    let len : vec_len c.take_last.new.self ≡ vec_len c.args.bytes.now - (c.loop.counter + 1) = omega (arith, all.1, last.len) in
    (one_less _ _ _ _ _ (sym all.0 ∙ last.items) (sym c.take_last.new.self.ok.0 ∙ len) (omega arith), len, last.capacity ∙ all.2)
