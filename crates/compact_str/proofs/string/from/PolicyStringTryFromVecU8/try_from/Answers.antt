-- Invalid bytes are returned with their error.
use Rattle.std.proofs.Common.{sym}
use Rattle.std.proofs.lemmas.Bool.{true≢false}
use Rattle.std.specs.Str.{IsUtf8}
use Rattle.std.specs.String.{from_utf8_error_cause}
use Rattle.compact_str.proofs.DecodingLemmas.{std-error}
use Rattle.compact_str.proofs.string.from.PolicyStringTryFromVecU8.try_from.Goals as goal

pub returns-in-Err : goal.returns-in-Err
returns-in-Err g c =
    let bytes = c.args.bytes.items in
    let got = c.in-Err.ensures in
    let bad : ¬ (IsUtf8 bytes) = λ is. true≢false (sym (got.succeeds is)) in (
      (λ is. absurd (true≢false (sym is)), got.succeeds),
      (
        got.err,
        std-error bytes (from_utf8_error_cause c.in-Err.error) bad got.valid_len got.fault,
      ),
    )
