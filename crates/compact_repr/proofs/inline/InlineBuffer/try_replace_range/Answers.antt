-- The first bytes spell the text, and so a part of the bytes is replaced where that part of the text is.
use Rattle.std.proofs.Common.{◌∙◌}
use Rattle.compact_text.proofs.CutLemmas.{text_of-replaced, utf8-replaced}
use Rattle.compact_repr.proofs.PackedTexts.{packed-text}
use Rattle.compact_repr.proofs.PackedCuts.{utf8-seen}
use Rattle.compact_repr.proofs.inline.InlineBuffer.try_replace_range.Goals as goal

pub write_len-requires-clause-text : goal.write_len-requires-clause-text
write_len-requires-clause-text c =
    rw (← c.as_bytes.ensures.value, c.splice_short.ensures, c.decode_len-old_len.ensures)
    (utf8-replaced _ _ _ _ c.self.view_is (utf8-seen _ c.self.invariant) c.as_bytes.ensures.utf8 c.requires.first
    c.requires.last)

pub returns-clause-replaced : goal.returns-clause-replaced
returns-clause-replaced c _ =
    packed-text _ _ c.write_len.ensures
    ∙ rw (← c.as_bytes.ensures.value, c.splice_short.ensures, c.decode_len-old_len.ensures)
    (text_of-replaced _ _ _ _ c.self.view_is (utf8-seen _ c.self.invariant) c.as_bytes.ensures.utf8 c.requires.first
    c.requires.last)
