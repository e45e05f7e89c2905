-- The line that was shown is consumed, and appended or not.
use Rattle.std.proofs.Common.{take, length-take-le}
use Rattle.std.proofs.lemmas.Result.{err_from_is_err_and}
use Rattle.compact_ext.proofs.TakenLines.{line-shown, fails-after}
use Rattle.compact_ext.proofs.lines.append_shown.Goals as goal

pub returns-in_err-appended-clause-cause : goal.returns-in_err-appended-clause-cause
returns-in_err-appended-clause-cause g c =
    let filled = rw c.in-Ok.is at c.fill_buf.follows.holds-at-none in
    let shown = c.in-Ok.shown.now in
    let look = c.in-Ok.ensures in
    let len = c.in-Some.len in
    let taken =
    line-shown _ _ _ _ shown len c.in-Some.ensures look.front look.end filled.0 filled.1 c.consume.ensures.bytes in
    let (error, is, same) = err_from_is_err_and c.from_residual.result c.from_residual.ensures.1 in
    rw (is, same) (fails-after _ _ c.args.line.now (take len shown) _ taken c.in_err-appended.ensures.cause)

pub returns-clause-line : goal.returns-clause-line
returns-clause-line g c =
    let filled = rw c.in-Ok.is at c.fill_buf.follows.holds-at-none in
    let shown = c.in-Ok.shown.now in
    let look = c.in-Ok.ensures in
    let len = c.in-Some.len in
    record {
      line = take len shown;
      len = length-take-le len shown c.in-Some.ensures.within;
      taken =
          line-shown _ _ _ _ shown len c.in-Some.ensures look.front look.end filled.0 filled.1 c.consume.ensures.bytes;
      appended = c.in_ok-appended.ensures.ok;
    }
