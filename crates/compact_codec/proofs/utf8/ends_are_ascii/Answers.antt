use Rattle.compact_codec.proofs.InvalidSequenceLemmas.{ascii_by_ends}
use Rattle.compact_codec.proofs.utf8.ends_are_ascii.Goals as goal

pub returns-then-is_ascii_slice : goal.returns-then-is_ascii_slice
returns-then-is_ascii_slice c = λ yes.
    ascii_by_ends c.args.bytes.now c.args.len c.requires.within c.requires.short
    (c.is_ascii_slice.ensures c.if-is_ascii_slice.true) (c.is_ascii_slice-then-is_ascii_slice.ensures yes)
