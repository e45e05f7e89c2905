use Rattle.std.proofs.Common.{◌++◌, refl, sym, ap, subst, ◌∙◌, arith, length, length-append}
use Rattle.std.proofs.lemmas.List.{length-drop}
use Rattle.std.proofs.lemmas.Str.{length-encode}
use lib.Utf8.{encode}
use Rattle.compact_text.specs.Text.{text_of}
use Rattle.compact_text.specs.Cut.{IsBoundary}
use Rattle.compact_text.proofs.CutLemmas.{boundary-bytes, boundary-next, text_of-next}
use Rattle.compact_text.proofs.str_parts.char_at.Goals as goal

pub range_from-requires : goal.range_from-requires
range_from-requires c = λ _. boundary-bytes _ _ refl c.utf8.text c.requires.boundary

pub returns-clause-character : goal.returns-clause-character
returns-clause-character c = record {
  rest = text_of c.as_str.result.now;
  text =
      text_of-next c.args.text.now _ c.args.index _ c.utf8.text c.requires.boundary
      (sym c.range_from.ensures.value ∙ sym c.chars-chars.ensures.rest ∙ c.in-Some.ensures.steps.0
      ∙ ap (λ l. encode c.in-Some.character ++ l) (sym c.as_str.ensures));
}

pub returns-clause-end : goal.returns-clause-end
returns-clause-end c =
    let last = c.in-Some.character in
    let whole = ap length (sym c.range_from.ensures.value ∙ sym c.chars-chars.ensures.rest
    ∙ c.in-Some.ensures.steps.0) in
    omega (
      arith,
      whole,
      c.requires.within,
      length-drop c.args.index c.args.text.now,
      length-append (encode last) c.next.new.self.rest.now,
      length-encode last,
      ap length c.as_str.ensures,
    )

pub returns-clause-next : goal.returns-clause-next
returns-clause-next c =
    let next = returns-clause-character c in
    subst (IsBoundary (text_of c.args.text.now)) (sym (returns-clause-end c))
    (boundary-next _ next.rest c.args.index c.in-Some.character c.requires.boundary next.text)
