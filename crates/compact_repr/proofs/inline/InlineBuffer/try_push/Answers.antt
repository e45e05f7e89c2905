use Rattle.std.proofs.Common.{◌∙◌}
use Rattle.compact_text.proofs.RetainLemmas.{utf8-pushed, text_of-pushed}
use Rattle.compact_repr.proofs.PackedTexts.{packed-text, packed-again}
use Rattle.compact_repr.proofs.PackedCuts.{utf8-seen}
use Rattle.compact_repr.proofs.inline.InlineBuffer.try_push.Goals as goal

pub write_len-requires-clause-text : goal.write_len-requires-clause-text
write_len-requires-clause-text c =
    rw (c.in-Some-try_write_char.ensures.written, c.in-Some.ensures.0)
    (utf8-pushed _ c.args.character c.ranges.character.0 (utf8-seen _ c.self.invariant))

pub invariant_of-self-2 : goal.invariant_of-self-2
invariant_of-self-2 c = packed-again _ _ c.write_len.ensures

pub returns-clause-pushed : goal.returns-clause-pushed
returns-clause-pushed c _ =
    packed-text _ _ c.write_len.ensures
    ∙ rw (c.in-Some-try_write_char.ensures.written, c.in-Some.ensures.0, ← c.self.view_is)
    (text_of-pushed _ c.args.character c.ranges.character.0 (utf8-seen _ c.self.invariant))
