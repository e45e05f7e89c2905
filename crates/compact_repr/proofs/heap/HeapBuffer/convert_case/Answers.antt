use Rattle.std.proofs.Common.{arith}
use Rattle.compact_repr.proofs.HeapTexts.{written}
use Rattle.compact_text.proofs.AsciiCase.{utf8-in_case}
use Rattle.compact_repr.proofs.heap.HeapBuffer.convert_case.Goals as goal

pub invariant_of-self : goal.invariant_of-self
invariant_of-self c = rw (
  written c.self.inside.bytes.items c.convert_case.new.slice c.self.inside.bytes.len (omega arith) (omega arith),
  c.convert_case.ensures,
  c.as_mut_slice.ensures.value,
) (utf8-in_case c.args.case _ c.self.invariant)
