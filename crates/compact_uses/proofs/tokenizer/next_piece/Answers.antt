use Rattle.compact_uses.proofs.PieceLemmas.{begun, cut-boundary, cut-piece}
use Rattle.compact_uses.proofs.tokenizer.next_piece.Goals as goal

pub split_at-requires : goal.split_at-requires
split_at-requires c = cut-boundary _ _ _ (begun _ _ _ _ _ c.in_ok-first.ensures c.kind_of-kind.ensures
    c.skip_kind-rest.ensures.more) c.utf8.text c.skip_kind-rest.utf8

pub returns-clause-first : goal.returns-clause-first
returns-clause-first c = record {
  is = cut-piece _ _ _ _ (begun _ _ _ _ _ c.in_ok-first.ensures c.kind_of-kind.ensures c.skip_kind-rest.ensures.more)
      c.utf8.text c.skip_kind-rest.utf8 c.split_at.ensures.front;
  longest = c.skip_kind-rest.ensures.apart;
}
