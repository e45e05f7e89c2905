use Rattle.std.proofs.Common.{◌≡◌, ◌<◌, ◌∙◌, ◌+◌, ℕ, List, length, ap, arith}
use Rattle.std.specs.Io.BufRead.{strip_last}
use Rattle.compact_lines.proofs.LineLemmas.{so-far-more, stopped-after, stopped-within}
use Rattle.compact_lines.proofs.lines.run_each_line.Goals as goal

some-read : (bytes : List ℕ) (len before n : ℕ) → len ≡ length bytes → len ≡ before + n → (n ≡ 0 → ⊥) → 0 < length bytes
some-read bytes len before n is more some = omega arith

pub loop-preserved : goal.loop-preserved
loop-preserved g c =
    let takes = rw c.clear.ensures.items at c.in_ok-read_until.ensures.bytes in
    let some = some-read _ _ _ _ c.read_until.new.buf.ok.0 c.in_ok-read_until.ensures.ok c.if-branch-eq0.false in
    let stripped = c.without_end.ensures ∙ ap (λ t. strip_last 10 t) c.as_slice.ensures.value in
    so-far-more _ _ _ _ _ _ _ _ _ _ _ _ c.loop.invariant takes some stripped c.in_ok-read_until.ensures.rest
    c.in_ok-run_line.ensures.ok c.flush.ensures.bytes

pub returns-in_err-read_until-clause-err : goal.returns-in_err-read_until-clause-err
returns-in_err-read_until-clause-err g c = stopped-after _ _ _ _ _ _ _ c.loop.invariant

pub returns-in_err-run_line-clause-err : goal.returns-in_err-run_line-clause-err
returns-in_err-run_line-clause-err g c =
    let takes = rw c.clear.ensures.items at c.in_ok-read_until.ensures.bytes in
    let some = some-read _ _ _ _ c.read_until.new.buf.ok.0 c.in_ok-read_until.ensures.ok c.if-branch-eq0.false in
    let stripped = c.without_end.ensures ∙ ap (λ t. strip_last 10 t) c.as_slice.ensures.value in
    stopped-within _ _ _ _ _ _ _ _ _ _ c.loop.invariant takes some stripped c.in_err-run_line.ensures.err

pub returns-in_err-flush-clause-err : goal.returns-in_err-flush-clause-err
returns-in_err-flush-clause-err g c =
    let takes = rw c.clear.ensures.items at c.in_ok-read_until.ensures.bytes in
    let some = some-read _ _ _ _ c.read_until.new.buf.ok.0 c.in_ok-read_until.ensures.ok c.if-branch-eq0.false in
    let stripped = c.without_end.ensures ∙ ap (λ t. strip_last 10 t) c.as_slice.ensures.value in
    stopped-after _ _ _ _ _ _ _
    (so-far-more _ _ _ _ _ _ _ _ _ _ _ _ c.loop.invariant takes some stripped c.in_ok-read_until.ensures.rest
    c.in_ok-run_line.ensures.ok c.flush.ensures.bytes)
