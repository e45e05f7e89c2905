-- Facts about texts for most goals of this crate and those above it.
use Rattle.std.proofs.lemmas.Str.{chars-nil, chars-append, IsUtf8-append}
use Rattle.compact_text.proofs.Texts.{length-utf8, utf8-text_of, size-text_of, size-append, text_of-empty}

pub ruleset text_facts = (length-utf8, utf8-text_of, size-text_of, size-append, chars-nil, chars-append, IsUtf8-append)

-- also for empty texts
pub ruleset empty_facts = (text_facts, text_of-empty)
