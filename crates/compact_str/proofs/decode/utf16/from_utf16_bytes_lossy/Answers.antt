use Rattle.compact_str.proofs.DecodedValues.{odd_byte_refused}
use Rattle.compact_str.proofs.decode.utf16.from_utf16_bytes_lossy.Goals as goal

pub returns-in_err-push_or_reserve : goal.returns-in_err-push_or_reserve
returns-in_err-push_or_reserve c =
    odd_byte_refused c.args.order c.args.bytes.now _ _ c.from_residual-in_err-push_or_reserve.ensures.0
    c.in_ok-made.ensures.text
    c.if-bytes-ne0.true c.in_err-push_or_reserve.ensures.allocates
