-- No bit is lost.
use Rattle.std.proofs.Common.{arith}
use Rattle.compact_ext.proofs.Digits.{moves}
use Rattle.compact_ext.proofs.to_compact_string.digits.ShortText.prepend.Goals as goal

pub overflow_add-result : goal.overflow_add-result
overflow_add-result c =
    let m = moves _ c.self.inside.low c.self.inside.high c.args.group c.requires.some c.requires.most (omega arith)
    c.requires.group (rw c.self.view_is c.requires.fits) in
    omega arith

pub overflow_add-result-2 : goal.overflow_add-result-2
overflow_add-result-2 c =
    let m = moves _ c.self.inside.low c.self.inside.high c.args.group c.requires.some c.requires.most (omega arith)
    c.requires.group (rw c.self.view_is c.requires.fits) in
    omega arith
