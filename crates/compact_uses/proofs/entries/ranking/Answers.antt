use Rattle.std.proofs.Common.{rules}
use Rattle.std.proofs.lemmas.List.Sorted.{answers_always}
use Rattle.compact_uses.specs.Entries.{IsRanking}
use Rattle.compact_uses.proofs.entries.ranking.Goals as goal

pub returns-clause-ranks : goal.returns-clause-ranks
returns-clause-ranks c =
    let sorts = c.in_ok-sort_by_key.ensures in
    let ranked : IsRanking c.in_ok-ranks.ranks.items c.sort_by_key.new.self.items =
    record {
      same = sorts.permutation;
      falling = sorts.sorted (λ e. record { 0 = e.count }) (answers_always _ _ _ (λ f a r q k. search rules));
      ties = sorts.stable (λ e. record { 0 = e.count }) (answers_always _ _ _ (λ f a r q k. search rules));
    } in
    rw c.in_ok-ranks.ensures.entries at ranked
