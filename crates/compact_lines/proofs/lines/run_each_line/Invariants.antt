use Rattle.compact_lines.proofs.LineLemmas.{AnswersSoFar}
use Rattle.compact_lines.proofs.lines.run_each_line.Given as goal

-- the lines so far are run, and what is left of the known bytes is known
abbrev pub invariant-loop : goal.invariant-loop
invariant-loop g l =
    AnswersSoFar l.fn.session (g.B.Read.remaining l.fn.reader) (g.B.Read.remaining l.reader)
    (g.W.Write.contents l.fn.writer) (g.W.Write.contents l.writer) l.session
