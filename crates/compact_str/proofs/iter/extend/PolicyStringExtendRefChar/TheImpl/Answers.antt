use Rattle.std.proofs.Common.{Bor, ℕ}
use Rattle.compact_str.specs.Collect.{char_text}
use Rattle.compact_str.proofs.CollectLemmas.{extended-for_trait}
use Rattle.compact_str.proofs.iter.extend.PolicyStringExtendRefChar.TheImpl.Goals as goal

pub extend-asks : goal.extend-asks
extend-asks g c = λ it gives. ((c.requires it gives).0, (c.requires it gives).1)

pub extend-tells : goal.extend-tells
extend-tells g c = record {
  ran = extended-for_trait g.U.IntoIterator.into_iter_gives g.U.IntoIter.Iterator.next_gives g.P.Policy.growth
      (λ (x : Bor ℕ). char_text x.now) _ _ _ c.result c.ensures.pushes c.ensures.err;
}
