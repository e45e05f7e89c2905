use Rattle.std.proofs.Common.{ℕ, arith}
use Rattle.compact_repr.proofs.PackedArrays.{packed_long, packed_one}
use Rattle.compact_repr.proofs.inline.length.pack.Goals as goal

pub returns-then-len-ge8 : goal.returns-then-len-ge8
returns-then-len-ge8 c =
    rw (
      c.array_of_words.ensures,
      c.load8.ensures.bytes,
      c.second_word.ensures,
      c.with_length.ensures,
      c.third_word.ensures,
    )
    (packed_long c.args.text.now (λ (i : ℕ). (c.type_inv.text i).fits) (omega arith) c.requires)

pub returns-else-len-ge8 : goal.returns-else-len-ge8
returns-else-len-ge8 c =
    rw (c.array_of_words-else-len-ge8.ensures, c.load_up_to_8.ensures, c.with_length-else-len-ge8.ensures)
    (packed_one c.args.text.now (λ (i : ℕ). (c.type_inv.text i).fits) (omega arith))
