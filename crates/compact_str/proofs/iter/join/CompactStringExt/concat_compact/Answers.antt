use Rattle.std.proofs.Common.{rules, flat_map}
use Rattle.compact_repr.specs.Text.{utf8}
use Rattle.compact_str.proofs.CollectLemmas.{ran-here, ran-bytes, utf8-flat_map}
use Rattle.compact_str.proofs.iter.join.CompactStringExt.concat_compact.Goals as goal

pub returns : goal.returns
returns g c =
    let read = g.Self.Item.AsText.text in
    let text = ran-here g.Self.Iterator.next_gives c.args.self (flat_map read) c.from_texts.result
    c.from_texts.ensures.text in
    record {
      text = text;
      bytes = ran-bytes g.Self.Iterator.next_gives c.args.self (flat_map read) (flat_map (λ x. utf8 (read x)))
          (utf8-flat_map read) c.from_texts.result text;
      place = c.from_texts.ensures.place;
      succeeds = search rules;
      allocates = search rules;
    }
