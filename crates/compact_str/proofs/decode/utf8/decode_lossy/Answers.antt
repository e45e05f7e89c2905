use Rattle.std.proofs.Common.{rules, ◌<◌, length}
use Rattle.compact_str.proofs.DecodedValues.{chunk-read}
use Rattle.compact_str.proofs.decode.utf8.decode_lossy.Goals as goal

pub loop-made-preserved : goal.loop-made-preserved
loop-made-preserved c =
    let some : 0 < length c.loop-made.chunk.invalid.now = search rules in
    record {
      fitted = c.in_ok-push_or_reserve-2.ensures.place;
      text = chunk-read _ _ _ _ _ _ _ _ c.loop-made.invariant.text some c.first_chunk-chunk.ensures.lossy
          c.in_ok-push_or_reserve.ensures.text c.in_ok-push_or_reserve-2.ensures.text;
      whole = c.first_chunk-chunk.ensures.whole;
    }
