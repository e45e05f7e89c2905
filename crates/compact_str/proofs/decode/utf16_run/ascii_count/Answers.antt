use Rattle.std.proofs.Common.{leb}
use Rattle.compact_str.proofs.UnitRuns.{ascii_mask, first_of}
use Rattle.compact_str.proofs.decode.utf16_run.ascii_count.Goals as goal

pub returns : goal.returns
returns c =
    first_of (leb 128) c.args.block _ c.first_set.result c.fits-block.0 (ascii_mask c.args.block c.fits-block.0)
    c.first_set.ensures
