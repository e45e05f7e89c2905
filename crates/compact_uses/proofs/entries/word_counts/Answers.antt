use Rattle.std.proofs.Common.{slice_index_or, arith}
use Rattle.std.proofs.lemmas.Grind.{common_steps}
use Rattle.compact_uses.specs.declared.tokenizer.Kind.TheVariants.{Word}
use Rattle.compact_uses.proofs.CountLemmas.{count_facts, word_count-bound}
use Rattle.compact_uses.proofs.entries.word_counts.Goals as goal

pub overflow_add-index_mut : goal.overflow_add-index_mut
overflow_add-index_mut c =
    let token = slice_index_or c.args.tokens.now c.loop-token.token-index (record { kind = Word; name = 0 }) in
    grind (
      arith,
      common_steps,
      c.loop-token.invariant.counts token.name,
      word_count-bound c.args.tokens.now c.loop-token.token-index token.name,
    )

pub loop-token-preserved : goal.loop-token-preserved
loop-token-preserved c = record {
  len = grind (arith, common_steps);
  counts = λ n lt. grind (arith, common_steps, count_facts, c.loop-token.invariant.counts n lt);
}
