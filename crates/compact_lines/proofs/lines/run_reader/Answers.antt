use Rattle.compact_lines.proofs.LineLemmas.{stopped-at-first}
use Rattle.compact_lines.proofs.lines.run_reader.Goals as goal

pub returns-in_err-reader-clause-err : goal.returns-in_err-reader-clause-err
returns-in_err-reader-clause-err g c = stopped-at-first _ _ _ _
