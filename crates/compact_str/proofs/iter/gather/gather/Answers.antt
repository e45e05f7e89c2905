use Rattle.std.proofs.Common.{rules, ◌++◌, ◌∙◌, arith}
use Rattle.compact_repr.specs.Text.{text_of}
use Rattle.compact_text.proofs.Texts.{size-append}
use Rattle.compact_str.specs.Collect.{string_text}
use Rattle.compact_str.proofs.CollectLemmas.{on_err, passes-joined}
use Rattle.compact_str.proofs.iter.gather.gather.Goals as goal

pub returns-in_err-push_piece-clause-err : goal.returns-in_err-push_piece-clause-err
returns-in_err-push_piece-clause-err g c =
    let l = c.loop-piece in
    let z = (string_text l.long ++ l.block) ++ text_of l.between.now in
    on_err _ (passes-joined g.I.Iterator.next_gives g.T.Element.text (text_of c.args.separator.now) _ _ _ l.yielded
    c.in-Some.piece z l.yielded_by c.in-Some.ensures.steps (search rules)
    (omega (arith, c.in_err-push_piece.ensures.err, size-append z (g.T.Element.text c.in-Some.piece))))

pub returns-in_err-push_piece-2-clause-err : goal.returns-in_err-push_piece-2-clause-err
returns-in_err-push_piece-2-clause-err g c =
    let l = c.loop-piece in
    on_err _ (passes-joined g.I.Iterator.next_gives g.T.Element.text (text_of c.args.separator.now) _ _ _ l.yielded
    c.in-Some.piece _ l.yielded_by c.in-Some.ensures.steps (c.in_ok-push_piece.ensures.ok ∙ search rules)
    c.in_err-push_piece-2.ensures.err)
