use Rattle.compact_lines.proofs.LineLemmas.{command-written, does-or-refuses, outcome-stopped, value-stopped}
use Rattle.compact_lines.proofs.lines.run_command.Goals as goal

pub returns-in_err-write_outcome-clause-err : goal.returns-in_err-write_outcome-clause-err
returns-in_err-write_outcome-clause-err g c =
    let e = c.execute-outcome.ensures in
    outcome-stopped _ _ _ _ _ _ _ (does-or-refuses _ _ _ _ e.executes e.room e.allocates e.err)
    c.in_err-write_outcome.ensures.err

pub returns-clause-ok : goal.returns-clause-ok
returns-clause-ok g c =
    let e = c.execute-outcome.ensures in
    command-written _ _ _ _ _ _ _ _ _ (does-or-refuses _ _ _ _ e.executes e.room e.allocates e.err)
    c.in_ok-write_outcome.ensures.ok c.value.ensures c.write_value.ensures.ok

pub returns-clause-err : goal.returns-clause-err
returns-clause-err g c =
    let e = c.execute-outcome.ensures in
    value-stopped _ _ _ _ _ _ _ _ _ (does-or-refuses _ _ _ _ e.executes e.room e.allocates e.err)
    c.in_ok-write_outcome.ensures.ok c.value.ensures c.write_value.ensures.err
