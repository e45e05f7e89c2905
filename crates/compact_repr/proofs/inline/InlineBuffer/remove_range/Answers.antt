use Rattle.std.proofs.Common.{◌∙◌}
use Rattle.compact_text.proofs.CutLemmas.{text_of-removed, utf8-removed}
use Rattle.compact_repr.proofs.PackedTexts.{packed-text}
use Rattle.compact_repr.proofs.PackedCuts.{utf8-seen}
use Rattle.compact_repr.proofs.inline.InlineBuffer.remove_range.Goals as goal

pub write_len-requires-clause-text : goal.write_len-requires-clause-text
write_len-requires-clause-text c =
    rw (c.remove_range_short.ensures, c.decode_len-len.ensures)
    (utf8-removed _ c.args.start c.args.end c.self.view_is (utf8-seen _ c.self.invariant) c.requires.first
    c.requires.last)

pub returns : goal.returns
returns c =
    packed-text _ _ c.write_len.ensures
    ∙ rw (c.remove_range_short.ensures, c.decode_len-len.ensures)
    (text_of-removed _ c.args.start c.args.end c.self.view_is (utf8-seen _ c.self.invariant) c.requires.first
    c.requires.last)
