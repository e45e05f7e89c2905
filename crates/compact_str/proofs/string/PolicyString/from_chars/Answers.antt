use Rattle.compact_str.specs.Collect.{char_text}
use Rattle.compact_str.proofs.CollectLemmas.{each-alone, collected}
use Rattle.compact_str.proofs.string.PolicyString.from_chars.Goals as goal

pub returns : goal.returns
returns g c =
    collected g.U.IntoIterator.into_iter_gives g.U.IntoIter.Iterator.next_gives char_text _ (λ xs. xs) each-alone
    c.collect_elements.result
    c.collect_elements.ensures.ok c.collect_elements.ensures.place c.collect_elements.ensures.err
