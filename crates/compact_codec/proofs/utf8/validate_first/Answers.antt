use Rattle.std.proofs.Common.{rules, Some, sym, true≢false}
use Rattle.compact_codec.proofs.InvalidSequenceLemmas.{first_is_refused, error_is_no_text}
use Rattle.compact_codec.proofs.utf8.validate_first.Goals as goal

pub returns-then-begins_no_character : goal.returns-then-begins_no_character
returns-then-begins_no_character c =
    let error = first_is_refused c.args.bytes.now (search rules) (search rules) in
    let bad = error_is_no_text _ _ (Some 1) error in
    record {
      exact = (λ ok. absurd (true≢false (sym ok)), λ whole. absurd (bad whole));
      text = tt;
      error = error;
      invalid = bad;
    }
