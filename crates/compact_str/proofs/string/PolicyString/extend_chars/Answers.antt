use Rattle.compact_str.specs.Collect.{char_text}
use Rattle.compact_str.proofs.CollectLemmas.{each-alone, extended}
use Rattle.compact_str.proofs.string.PolicyString.extend_chars.Goals as goal

pub returns : goal.returns
returns g c =
    extended g.U.IntoIterator.into_iter_gives g.U.IntoIter.Iterator.next_gives g.P.Policy.growth char_text _ _ _
    (λ xs. xs) each-alone c.extend_elements.result
    c.extend_elements.ensures.ok c.extend_elements.ensures.succeeds c.extend_elements.ensures.err
