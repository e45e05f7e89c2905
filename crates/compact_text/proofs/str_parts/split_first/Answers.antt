use Rattle.std.proofs.Common.{◌∷◌, length, ap, sym, ◌∙◌, arith, length-append}
use Rattle.std.proofs.lemmas.Str.{chars_past_char, length-encode}
use lib.Utf8.{encode}
use Rattle.compact_text.specs.Text.{text_of}
use Rattle.compact_text.proofs.str_parts.split_first.Goals as goal

pub returns : goal.returns
returns c =
    let first = c.in_ok-character.character in
    let split = sym c.chars-after.ensures.rest ∙ c.in_ok-character.ensures.steps.0 in (
      omega (
        arith,
        ap length split,
        length-append (encode first) c.next.new.self.rest.now,
        length-encode first,
        ap length c.as_str.ensures,
      ),
      (
        text_of c.as_str.result.now,
        chars_past_char c.args.text.now _ first c.utf8.text split
            ∙ ap (λ b. first ∷ text_of b) (sym c.as_str.ensures),
      ),
    )
