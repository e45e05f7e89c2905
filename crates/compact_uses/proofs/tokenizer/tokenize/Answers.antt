use Rattle.compact_uses.proofs.TokenLemmas.{tokenized-joined}
use Rattle.compact_uses.proofs.tokenizer.tokenize.Goals as goal

pub returns-clause-joined : goal.returns-clause-joined
returns-clause-joined c = tokenized-joined _ _ _ _ _ c.loop-piece.invariant.done c.in_default.ensures.first
