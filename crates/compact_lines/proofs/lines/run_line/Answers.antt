use Rattle.std.proofs.Common.{None, Some}
use Rattle.compact_lines.proofs.LineLemmas.{no-command, no-command-stopped, command-of-line, part-of-line, broken-line}
use Rattle.compact_lines.proofs.LineLemmas.{text-line}
use Rattle.compact_lines.proofs.lines.run_line.Goals as goal

pub returns-in_default-clause-ok : goal.returns-in_default-clause-ok
returns-in_default-clause-ok g c =
    command-of-line _ _ _ None _ _ _ (broken-line _ c.in_default.ensures.cases.0)
    (no-command _ _ _ _ c.write_texts.ensures.ok)

pub returns-in_default-clause-err : goal.returns-in_default-clause-err
returns-in_default-clause-err g c =
    part-of-line _ _ _ None _ _ _ (broken-line _ c.in_default.ensures.cases.0)
    (no-command-stopped _ _ _ _ c.write_texts.ensures.err)

pub returns-in-Some-clause-ok : goal.returns-in-Some-clause-ok
returns-in-Some-clause-ok g c =
    let is = text-line _ _ (Some c.in-Some.command) c.in-Ok.ensures.cases
    (rw c.in-Some.is at c.in_ok-command.ensures) in
    command-of-line _ _ _ (Some c.in-Some.command) _ _ _ is c.run_command.ensures.ok

pub returns-in-Some-clause-err : goal.returns-in-Some-clause-err
returns-in-Some-clause-err g c =
    let is = text-line _ _ (Some c.in-Some.command) c.in-Ok.ensures.cases
    (rw c.in-Some.is at c.in_ok-command.ensures) in
    part-of-line _ _ _ (Some c.in-Some.command) _ _ _ is c.run_command.ensures.err

pub returns-in-None-clause-err : goal.returns-in-None-clause-err
returns-in-None-clause-err g c =
    let is = text-line _ _ None c.in-Ok.ensures.cases (rw c.in-None.is at c.in_ok-command.ensures) in
    part-of-line _ _ _ None _ _ _ is (no-command-stopped _ _ _ _ c.write_texts-in-None.ensures.err)
