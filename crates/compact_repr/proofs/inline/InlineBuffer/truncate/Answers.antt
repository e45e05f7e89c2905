use Rattle.std.proofs.Common.{◌∙◌}
use Rattle.compact_repr.proofs.PackedTexts.{packed-text}
use Rattle.compact_repr.proofs.PackedCuts.{utf8-cut, text_of-cut}
use Rattle.compact_repr.proofs.inline.InlineBuffer.truncate.Goals as goal

pub write_len-requires-clause-text : goal.write_len-requires-clause-text
write_len-requires-clause-text c = utf8-cut _ _ c.self.view_is c.self.invariant c.requires

pub returns : goal.returns
returns c = packed-text _ _ c.write_len.ensures ∙ text_of-cut _ _ c.self.view_is c.self.invariant c.requires
