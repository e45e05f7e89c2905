use Rattle.std.proofs.Common.{sym, true≢false}
use Rattle.compact_codec.proofs.InvalidSequenceLemmas.{whole_from, invalid_from, error_from}
use Rattle.compact_codec.proofs.utf8.validate_from.Goals as goal

pub from_utf8_unchecked-requires : goal.from_utf8_unchecked-requires
from_utf8_unchecked-requires c = whole_from c.args.bytes.now c.args.at c.requires.text c.in-Ok.ensures.text.1

pub returns-in-Err : goal.returns-in-Err
returns-in-Err c =
    let bad = invalid_from c.args.bytes.now c.args.at c.requires.within c.requires.text c.in-Err.ensures.invalid in
    let error = c.in-Err.error in
    record {
      exact = (λ ok. absurd (true≢false (sym ok)), λ whole. absurd (bad whole));
      text = tt;
      error = error_from c.args.bytes.now c.args.at error.valid_up_to error.error_len c.requires.within
          c.requires.text c.in-Err.ensures.error;
      invalid = bad;
    }
