use Rattle.std.proofs.Common.{◌≡◌, ◌+◌, ◌∷◌, Some, arith, ap, ◌∙◌, drop, drop-drop, length-drop}
use Rattle.std.specs.Prelude.{slice_get, unwrap_or}
use Rattle.compact_text.specs.Text.{replacement_character}
use Rattle.compact_codec.specs.Utf16Text.{IsUtf16Step, utf16_lossy_text}
use Rattle.compact_codec.proofs.Utf16TextLemmas.{first_step_within, utf16_lossy_text-step, unit_after, step_in}
use Rattle.compact_codec.proofs.utf16.character_at.Given.{Over}
use Rattle.compact_codec.proofs.utf16.character_at.Goals as goal
use Rattle.compact_codec.proofs.utf16.character_at.Goals.{then-at-len, else-at-len}

step_at : (g : Over) (c : goal.After-step_over g)
    → IsUtf16Step (drop c.args.at (g.U.Units.units c.args.units)) c.step_over.result.character c.step_over.result.taken
step_at g c =
    let units = g.U.Units.units c.args.units in
    let at = c.args.at in
    let known : slice_get (drop (at + 1) units) 0 ≡ c.if-at-len.second = unit_after units (at + 1) c.if-at-len.second
    (λ below. elim c.if-at-len.branch [
      | then-at-len w ↦ w.second-is ∙ ap Some w.unit.ensures
      | else-at-len w ↦ absurd (omega (arith, below, w.if-at-len.false, c.len-len.ensures.len))
    ])
    (λ past. elim c.if-at-len.branch [
      | then-at-len w ↦ absurd (omega (arith, past, w.if-at-len.true, c.len-len.ensures.len))
      | else-at-len w ↦ w.second-is
    ]) in
    step_in units at c.unit-2.result c.if-at-len.second _ _ c.requires c.unit-2.ensures known c.step_over.ensures.step

pub returns-clause-taken : goal.returns-clause-taken
returns-clause-taken g c =
    let units = g.U.Units.units c.args.units in
    let within = first_step_within (drop c.args.at units) _ _ (step_at g c) in
    (within.0, omega (arith, within.1, within.0, length-drop c.args.at units))

pub returns-clause-lossy : goal.returns-clause-lossy
returns-clause-lossy g c =
    let units = g.U.Units.units c.args.units in
    let n = c.step_over.result.taken in
    utf16_lossy_text-step (drop c.args.at units) _ n (step_at g c)
    ∙ ap (λ l. unwrap_or c.step_over.result.character replacement_character ∷ utf16_lossy_text l)
    (drop-drop n c.args.at units)
