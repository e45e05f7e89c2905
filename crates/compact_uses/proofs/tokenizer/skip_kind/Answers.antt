use Rattle.compact_uses.proofs.PieceLemmas.{continues-more}
use Rattle.compact_uses.proofs.tokenizer.skip_kind.Goals as goal

pub loop-character-preserved : goal.loop-character-preserved
loop-character-preserved c = record {
  is_text = search;
  more = continues-more _ _ _ _ _ _ c.loop-character.invariant.more c.in-Some.ensures c.kind_of.ensures
      c.if-not-continues_piece.ensures;
}
