use Rattle.compact_repr.proofs.PackedCase.{packed-in_case, text-in_case}
use Rattle.compact_repr.proofs.inline.InlineBuffer.convert_case.Goals as goal

pub invariant_of-self : goal.invariant_of-self
invariant_of-self c = rw c.convert_case.ensures (packed-in_case c.args.case _ c.self.told c.self.invariant)

pub returns : goal.returns
returns c = rw c.convert_case.ensures (text-in_case c.args.case _ c.self.told c.self.view_is c.self.invariant)
