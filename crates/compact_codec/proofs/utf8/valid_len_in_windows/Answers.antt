use Rattle.std.proofs.Common.{arith, ◌≤◌}
use Rattle.compact_codec.proofs.InvalidSequenceLemmas.{longer_window}
use Rattle.compact_codec.proofs.utf8.valid_len_in_windows.Goals as goal

pub loop-at-preserved : goal.loop-at-preserved
loop-at-preserved c =
    let onward = c.window_end-end.ensures.some in
    let order : c.loop-at.at ≤ c.window_end-end.result = omega arith in
    let wide = c.loop-at.invariant.wide in
    record {
      within = c.window_end-end.ensures.within;
      text = longer_window c.args.bytes.now c.loop-at.at c.window_end-end.result order c.loop-at.invariant.text
          (c.is_utf8.ensures.0 c.if-not-is_utf8.false);
      wide = (omega arith, omega arith);
    }
