use Rattle.std.proofs.Common.{◌∙◌, arith}
use Rattle.compact_text.proofs.Texts.{size-text_of}
use Rattle.compact_repr.specs.Text.{text_of}
use Rattle.compact_str.proofs.RepeatLemmas.{next_copies, append-never_allocates, append-stays}
use Rattle.compact_str.proofs.string.PolicyString.append_copies.Goals as goal

pub push_within-requires-clause-last : goal.push_within-requires-clause-last
push_within-requires-clause-last g c =
    let next = next_copies g.P.Policy.growth c.loop-done.self-inside.repr (text_of c.args.piece.now) _
    c.loop-done.done c.min-more.result c.args.count
    (size-text_of c.args.piece.now c.utf8.piece) (rw c.loop-done.invariant.placement c.requires.room)
    c.loop-done.invariant.text
    (omega (arith, c.min-more.ensures)) (omega (arith, c.min-more.ensures)) in
    next.0

pub unreachable-requires-in-Err-push_within : goal.unreachable-requires-in-Err-push_within
unreachable-requires-in-Err-push_within g c =
    let next = next_copies g.P.Policy.growth c.loop-done.self-inside.repr (text_of c.args.piece.now) _
    c.loop-done.done c.min-more.result c.args.count
    (size-text_of c.args.piece.now c.utf8.piece) (rw c.loop-done.invariant.placement c.requires.room)
    c.loop-done.invariant.text
    (omega (arith, c.min-more.ensures)) (omega (arith, c.min-more.ensures)) in
    append-never_allocates c.loop-done.self-inside.repr _ next.1 c.in-Err-push_within.ensures.allocates

pub loop-done-preserved : goal.loop-done-preserved
loop-done-preserved g c =
    let next = next_copies g.P.Policy.growth c.loop-done.self-inside.repr (text_of c.args.piece.now) _
    c.loop-done.done c.min-more.result c.args.count
    (size-text_of c.args.piece.now c.utf8.piece) (rw c.loop-done.invariant.placement c.requires.room)
    c.loop-done.invariant.text
    (omega (arith, c.min-more.ensures)) (omega (arith, c.min-more.ensures)) in
    record {
      text = c.in-Ok-push_within.ensures.text ∙ next.2;
      placement = append-stays g.P.Policy.growth c.loop-done.self-inside.repr c.push_within.new.self _
          c.in-Ok-push_within.ensures.place next.1 ∙ c.loop-done.invariant.placement;
      some = omega (arith, c.loop-done.invariant.some);
      most = omega (arith, c.min-more.ensures);
    }
