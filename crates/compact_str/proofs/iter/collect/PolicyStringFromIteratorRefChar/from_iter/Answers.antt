use Rattle.std.proofs.Common.{map, Bor, ℕ}
use Rattle.std.specs.Prelude.{Ok}
use Rattle.compact_str.specs.Collect.{char_text}
use Rattle.compact_str.proofs.CollectLemmas.{each-referred, collected}
use Rattle.compact_str.proofs.iter.collect.PolicyStringFromIteratorRefChar.from_iter.Goals as goal

pub returns : goal.returns
returns g c =
    collected g.U.IntoIterator.into_iter_gives g.U.IntoIter.Iterator.next_gives (λ (x : Bor ℕ). char_text x.now) _
    (map (λ (x : Bor ℕ). x.now)) each-referred
    (Ok _) c.in_ok-collect_elements.ensures.ok c.in_ok-collect_elements.ensures.place c.in_ok-collect_elements.ensures.err
