use Rattle.std.proofs.Common.{length}
use denote.Text.{Utf8}
use denote.Shadow.{shadow}
use Rattle.compact_str.specs.Text.{text_of}
use Rattle.compact_uses.specs.Tokens.{Continues}
use Rattle.compact_uses.proofs.tokenizer.skip_kind.Given as goal

abbrev pub invariant-loop-character : goal.invariant-loop-character
invariant-loop-character l = record {
  is_text : shadow (Utf8 l.rest);
  more : Continues l.kind (text_of l.text) (text_of l.rest);
}

abbrev pub decreases-loop-character : goal.decreases-loop-character
decreases-loop-character l = length (text_of l.rest)
