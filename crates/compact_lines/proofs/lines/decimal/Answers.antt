use Rattle.std.proofs.Common.{ap, ◌∙◌}
use Rattle.std.proofs.lemmas.Str.{encodes-IsAscii}
use Rattle.std.proofs.lemmas.Fmt.{IsAscii-decimal}
use Rattle.compact_str.specs.Text.{utf8}
use Rattle.compact_lines.proofs.lines.decimal.Goals as goal

pub returns : goal.returns
returns c = ap utf8 c.in-Ok.ensures.text ∙ encodes-IsAscii _ (IsAscii-decimal c.args.n c.ranges.n.fits)
