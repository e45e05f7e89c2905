use Rattle.std.proofs.Common.{◌≡◌, ◌∙◌}
use Rattle.compact_str.proofs.decode.buf.PolicyString+Standard.from_utf8_buf.Goals as goal

-- the error of what was read is that of the buffer
pub returns-in-Err-validate-clause-cause : goal.returns-in-Err-validate-clause-cause
returns-in-Err-validate-clause-cause g c =
    let same : c.as_slice.result.now ≡ g.B.Buf.unread c.args.buf.now = c.as_slice.ensures.value
    ∙ c.in-Ok.ensures.bytes in
    let found = c.in-Err-validate.ensures in
    rw (← same) (found.invalid, found.error, c.in-Ok.ensures.consumed)
