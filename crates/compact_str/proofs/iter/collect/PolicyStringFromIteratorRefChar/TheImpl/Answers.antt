use Rattle.std.specs.Prelude.{⊤}
use Rattle.compact_str.proofs.CollectLemmas.{collected-for_trait}
use Rattle.compact_str.proofs.iter.collect.PolicyStringFromIteratorRefChar.TheImpl.Goals as goal

pub from_iter-asks : goal.from_iter-asks
from_iter-asks g c = λ it gives. ((c.requires it gives).0, (c.requires it gives).1)

pub from_iter-tells : goal.from_iter-tells
from_iter-tells g c = record {
  ran = collected-for_trait (g.U.IntoIterator.into_iter_gives c.args.iter) g.U.IntoIter.Iterator.next_gives (λ _. ⊤) _
      _ c.result c.ensures.drained c.ensures.place;
}
