use Rattle.compact_codec.proofs.InvalidSequenceLemmas.{longer_window}
use Rattle.compact_codec.proofs.utf8.valid_len_by_guess.Goals as goal

pub returns-then-is_utf8-clause-text : goal.returns-then-is_utf8-clause-text
returns-then-is_utf8-clause-text c =
    longer_window c.args.bytes.now c.args.from c.args.end c.requires.order c.requires.text
    (c.is_utf8.ensures.0 c.if-is_utf8.true)
