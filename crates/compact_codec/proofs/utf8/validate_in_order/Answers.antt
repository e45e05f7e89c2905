use Rattle.std.proofs.Common.{ap, sym, ◌∙◌, drop, true≢false}
use Rattle.std.specs.Str.Lossy.{utf8_error_len}
use Rattle.compact_codec.proofs.InvalidSequenceLemmas.{error_is}
use Rattle.compact_codec.proofs.utf8.validate_in_order.Goals as goal

pub returns-in-Err : goal.returns-in-Err
returns-in-Err c =
    let bytes = c.args.bytes.now in
    let place = c.valid_up_to.ensures in
    let bad = c.in-Err.ensures.cases.0 in
    record {
      exact = (λ ok. absurd (true≢false (sym ok)), λ whole. absurd (bad whole));
      text = tt;
      error = (error_is bytes c.valid_up_to.result c.error_len.result bad).1 (
        place ∙ c.in-Err.ensures.valid_len,
        c.error_len.ensures ∙ c.in-Err.ensures.fault
            ∙ ap (λ n. utf8_error_len (drop n bytes)) (sym place),
      );
      invalid = bad;
    }
