use Rattle.std.proofs.Common.{◌∙◌, refl, []}
use Rattle.std.proofs.lemmas.Str.{chars-nil, IsUtf8-nil}
use Rattle.compact_text.proofs.CutLemmas.{text_of-last}
use Rattle.compact_text.proofs.str_parts.encode_char.Goals as goal

pub returns-clause-text : goal.returns-clause-text
returns-clause-text c =
    text_of-last c.from_utf8_unchecked.result.now [] c.args.character c.from_utf8_unchecked.utf8 IsUtf8-nil
    (c.from_utf8_unchecked.ensures ∙ c.encoded-len.ensures.bytes)
    ∙ rw chars-nil refl
