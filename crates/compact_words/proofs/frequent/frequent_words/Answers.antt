use Rattle.std.proofs.Common.{◌≡◌, length, ap, ◌∙◌, arith}
use Rattle.compact_words.proofs.EmptyLemmas.{no-ranks, none-taken, no-rows, never-refused}
use Rattle.compact_words.proofs.frequent.frequent_words.Goals as goal

pub returns-in_err-table-clause-empty : goal.returns-in_err-table-clause-empty
returns-in_err-table-clause-empty c = λ none.
    let names : c.len.result ≡ 0 = omega (
      arith,
      c.tokenize.ensures.bound,
      ap length none,
      ap length c.new-names.ensures,
      c.len.ensures.len,
    ) in
    let ranks = no-ranks c.deref.result.now c.len.result c.in-Ok.ranks.items names c.in-Ok.ensures.ranks in
    never-refused _ (c.in_err-table.ensures.empty (none-taken c.args.most _ (c.deref-2.ensures.value ∙ ranks)))

pub returns-in_err-lines-clause-empty : goal.returns-in_err-lines-clause-empty
returns-in_err-lines-clause-empty c = λ none.
    let names : c.len.result ≡ 0 = omega (
      arith,
      c.tokenize.ensures.bound,
      ap length none,
      ap length c.new-names.ensures,
      c.len.ensures.len,
    ) in
    let ranks = no-ranks c.deref.result.now c.len.result c.in-Ok.ranks.items names c.in-Ok.ensures.ranks in
    let taken = none-taken c.args.most _ (c.deref-2.ensures.value ∙ ranks) in
    never-refused _ (c.in_err-lines.ensures.succeeds (c.deref-3.ensures.value
    ∙ no-rows _ _ _ _ c.in_ok-table.ensures.records taken))
