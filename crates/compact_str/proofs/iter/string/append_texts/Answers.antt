use Rattle.std.proofs.Common.{◌∙◌, ap, arith}
use Rattle.compact_repr.specs.Text.{size}
use Rattle.compact_text.proofs.Texts.{size-text_of}
use Rattle.compact_str.proofs.CollectLemmas.{on_err}
use Rattle.compact_str.proofs.iter.string.append_texts.Goals as goal

pub returns-in_err-append_text-clause-err : goal.returns-in_err-append_text-clause-err
returns-in_err-append_text-clause-err g c =
    let stays = c.in_err-append_text.ensures.err.0 in
    on_err c.from_residual.result (
      c.into_iter-item-iterator.result,
      c.into_iter-item-iterator.ensures.into_iter_gives,
      (
        c.loop-item.yielded,
        c.in-Some.item,
        c.next.new.self,
        (c.loop-item.item-iterator, c.loop-item.yielded_by, c.in-Some.ensures.steps),
        stays ∙ c.loop-item.invariant.text,
        omega (
          arith,
          c.in_err-append_text.ensures.err.1,
          ap size stays,
          size-text_of c.text.result.now c.text.utf8,
          ap size c.text.ensures,
        ),
      ),
    )
