use Rattle.std.proofs.Common.{take}
use Rattle.std.specs.Io.KnownBytes.{Appends}
use Rattle.compact_lines.specs.Lines.{bytes_of}
use Rattle.compact_lines.proofs.write.write_texts.Given as goal

-- the texts so far are written
abbrev pub invariant-loop-text : goal.invariant-loop-text
invariant-loop-text g l =
    Appends (g.W.Write.contents l.fn.writer) (g.W.Write.contents l.writer) (bytes_of (take l.text-index l.texts))
