use Rattle.compact_lines.proofs.LineLemmas.{texts-stopped}
use Rattle.compact_lines.proofs.write.write_texts.Goals as goal

pub returns-in_err-write_whole-clause-err : goal.returns-in_err-write_whole-clause-err
returns-in_err-write_whole-clause-err g c =
    texts-stopped _ c.args.texts.now c.loop-text.text-index _ _ _ _ c.loop-text-test.true c.loop-text.invariant
    (rw c.as_bytes.ensures.value at c.in_err-write_whole.ensures.err)
