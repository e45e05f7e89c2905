use Rattle.std.proofs.Common.{eqb-true}
use Rattle.compact_str.proofs.UnitRuns.{first_ascii}
use Rattle.compact_str.proofs.decode.utf16_run.begins_with_ascii.Goals as goal

pub returns : goal.returns
returns c none = first_ascii c.args.block _ c.fits-block.0 c.fits-block.1 (eqb-true _ _ none)
