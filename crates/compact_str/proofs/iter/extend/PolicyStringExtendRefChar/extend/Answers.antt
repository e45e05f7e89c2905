use Rattle.std.proofs.Common.{map, Bor, ℕ}
use Rattle.std.specs.Prelude.{Ok, Err}
use Rattle.compact_str.specs.Collect.{char_text}
use Rattle.compact_str.proofs.CollectLemmas.{each-referred, extended}
use Rattle.compact_str.proofs.iter.extend.PolicyStringExtendRefChar.extend.Goals as goal

pub returns-in-Ok : goal.returns-in-Ok
returns-in-Ok g c =
    extended g.U.IntoIterator.into_iter_gives g.U.IntoIter.Iterator.next_gives g.P.Policy.growth
    (λ (x : Bor ℕ). char_text x.now) _ _ _ (map (λ (x : Bor ℕ). x.now))
    each-referred (Ok c.in-Ok.field-0) c.in-Ok.ensures.ok c.in-Ok.ensures.succeeds c.in-Ok.ensures.err

pub returns-in-Err : goal.returns-in-Err
returns-in-Err g c =
    extended g.U.IntoIterator.into_iter_gives g.U.IntoIter.Iterator.next_gives g.P.Policy.growth
    (λ (x : Bor ℕ). char_text x.now) _ _ _ (map (λ (x : Bor ℕ). x.now))
    each-referred (Err _) c.in-Err.ensures.ok c.in-Err.ensures.succeeds c.in-Err.ensures.err
