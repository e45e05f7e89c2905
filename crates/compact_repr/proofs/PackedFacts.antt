-- Facts about texts and packed bytes for the inline buffer.
use Rattle.std.proofs.lemmas.Str.{IsUtf8-nil}
use Rattle.compact_text.proofs.TextFacts.{text_facts}
use Rattle.compact_repr.proofs.PackedTexts.{packed-len, packed-most, packed-utf8, packed-text, packed-again, packs-text}

pub ruleset packed_facts = (
  text_facts,
  IsUtf8-nil,
  packed-len,
  packed-most,
  packed-utf8,
  packed-text,
  packed-again,
  packs-text,
)
