use Rattle.std.proofs.Common.{ap, ◌∙◌}
use Rattle.std.proofs.lemmas.Str.{encodes-chars}
use Rattle.compact_repr.specs.Text.{text_of, utf8}
use Rattle.compact_str.specs.Collect.{join}
use Rattle.compact_str.proofs.CollectLemmas.{joined-ran, joined-succeeds, ran-bytes, utf8-join}
use Rattle.compact_str.proofs.iter.join.CompactStringExt.join_compact.Goals as goal

pub returns : goal.returns
returns g c =
    let read = g.Self.Item.AsText.text in
    let separator = c.args.separator.now in
    let between = text_of separator in
    let text = joined-ran g.Self.Iterator.next_gives c.args.self (join between read) c.gather.result
    c.gather.ensures.ok in
    record {
      text = text;
      bytes = ran-bytes g.Self.Iterator.next_gives c.args.self (join between read) (join separator (λ x. utf8 (read x)))
          (λ xs. utf8-join read between xs ∙ ap (λ s. join s (λ x. utf8 (read x)) xs)
          (encodes-chars separator c.utf8.separator)) c.gather.result text;
      place = c.gather.ensures.place;
      succeeds = joined-succeeds g.Self.Iterator.next_gives c.args.self (join between read) c.gather.result
          c.gather.ensures.err;
      allocates = c.gather.ensures.err;
    }
