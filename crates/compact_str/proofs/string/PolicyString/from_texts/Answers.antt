use Rattle.std.proofs.Common.{flat_map, refl}
use Rattle.compact_str.proofs.CollectLemmas.{collected, collected-size}
use Rattle.compact_str.proofs.string.PolicyString.from_texts.Goals as goal

pub returns-clause-text : goal.returns-clause-text
returns-clause-text g c =
    (collected g.U.IntoIterator.into_iter_gives g.U.IntoIter.Iterator.next_gives g.T.AsText.text _
    (flat_map g.T.AsText.text) (λ xs. refl) c.collect_elements.result
    c.collect_elements.ensures.ok c.collect_elements.ensures.place c.collect_elements.ensures.err).text

pub returns-clause-size : goal.returns-clause-size
returns-clause-size g c =
    collected-size g.U.IntoIterator.into_iter_gives g.U.IntoIter.Iterator.next_gives g.T.AsText.text _
    (flat_map g.T.AsText.text) (λ xs. refl) c.collect_elements.result
    c.collect_elements.ensures.ok
