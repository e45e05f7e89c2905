-- The 30 ASCII bytes, read as characters.
use Rattle.std.proofs.Common.{refl}
use Rattle.std.specs.Str.{chars}
use Rattle.compact_lines.proofs.session.Session.execute.Goals as goal

pub returns-in-Static-clause-executes : goal.returns-in-Static-clause-executes
unfolding chars
returns-in-Static-clause-executes c = rw (c.in-Static.is, c.const_new.ensures.value) (refl, refl, refl)
