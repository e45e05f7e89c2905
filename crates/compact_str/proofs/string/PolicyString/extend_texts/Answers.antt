use Rattle.std.proofs.Common.{flat_map, refl}
use Rattle.compact_str.proofs.CollectLemmas.{extended}
use Rattle.compact_str.proofs.string.PolicyString.extend_texts.Goals as goal

pub returns-clause-text : goal.returns-clause-text
returns-clause-text g c =
    (extended g.U.IntoIterator.into_iter_gives g.U.IntoIter.Iterator.next_gives g.P.Policy.growth g.T.AsText.text _ _
    _ (flat_map g.T.AsText.text) (λ xs. refl)
    c.extend_elements.result c.extend_elements.ensures.ok c.extend_elements.ensures.succeeds
    c.extend_elements.ensures.err).text

pub returns-clause-boundary : goal.returns-clause-boundary
returns-clause-boundary g c =
    (extended g.U.IntoIterator.into_iter_gives g.U.IntoIter.Iterator.next_gives g.P.Policy.growth g.T.AsText.text _ _
    _ (flat_map g.T.AsText.text) (λ xs. refl)
    c.extend_elements.result c.extend_elements.ensures.ok c.extend_elements.ensures.succeeds
    c.extend_elements.ensures.err).boundary

pub returns-clause-front : goal.returns-clause-front
returns-clause-front g c =
    (extended g.U.IntoIterator.into_iter_gives g.U.IntoIter.Iterator.next_gives g.P.Policy.growth g.T.AsText.text _ _
    _ (flat_map g.T.AsText.text) (λ xs. refl)
    c.extend_elements.result c.extend_elements.ensures.ok c.extend_elements.ensures.succeeds
    c.extend_elements.ensures.err).front

pub returns-clause-room : goal.returns-clause-room
returns-clause-room g c =
    (extended g.U.IntoIterator.into_iter_gives g.U.IntoIter.Iterator.next_gives g.P.Policy.growth g.T.AsText.text _ _
    _ (flat_map g.T.AsText.text) (λ xs. refl)
    c.extend_elements.result c.extend_elements.ensures.ok c.extend_elements.ensures.succeeds
    c.extend_elements.ensures.err).room
