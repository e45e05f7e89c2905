use Rattle.std.proofs.Common.{map, take}
use Rattle.std.specs.Io.KnownBytes.{Appends}
use Rattle.compact_str.specs.Order.{text_in}
use Rattle.compact_words.specs.Reports.{bytes_of_lines}
use Rattle.compact_words.proofs.write_lines.Given as goal

-- the lines so far are written
abbrev pub invariant-loop-line : goal.invariant-loop-line
invariant-loop-line g l =
    Appends (g.W.Write.contents l.fn.writer) (g.W.Write.contents l.writer)
    (bytes_of_lines (map text_in (take l.line-index l.lines)))
