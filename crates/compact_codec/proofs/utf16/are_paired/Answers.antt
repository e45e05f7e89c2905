use Rattle.std.proofs.Common.{arith, ap, sym, ◌∙◌, ◌≡◌, ℕ, ◌<◌, ◌^◌, get_or, subst, inl, inr, false, true}
use Rattle.std.proofs.lemmas.Bool.{cases_lt}
use Rattle.std.specs.Prelude.{◌||◌, not}
use Rattle.std.specs.Char.Utf16.{is_low_surrogate, is_high_surrogate}
use mathlib.Core.Bool.{xor}
use Rattle.compact_codec.proofs.UnpairedSurrogates.{unpaired_step, unpaired_end}
use Rattle.compact_codec.proofs.utf16.are_paired.Goals as goal

pub loop-at-preserved : goal.loop-at-preserved
unfolding xor
loop-at-preserved g c =
    let units = g.U.Units.units c.args.units in
    let kept = c.loop-at.invariant in
    record {
      within = omega (arith, c.len.ensures.len, c.loop-at-test.true);
      fit = λ k within. elim (cases_lt k c.loop-at.at) [
        | inl below ↦ kept.fit k below
        | inr from ↦
            let same : c.loop-at.at ≡ k = omega (arith, from, within) in
            subst (λ (j : ℕ). get_or units j 0 < 2 ^ 16) same
            (subst (λ (u : ℕ). u < 2 ^ 16) c.unit-unit.ensures (omega (arith, c.unit-unit.type_inv)))
      ];
      found = unpaired_step units c.loop-at.at c.loop-at.unpaired c.loop-at.after_high
          c.is_low.result c.is_high-after_high.result _
          (omega (arith, c.len.ensures.len, c.loop-at-test.true))
          (c.is_low.ensures ∙ ap is_low_surrogate c.unit-unit.ensures)
          (c.is_high-after_high.ensures ∙ ap is_high_surrogate c.unit-unit.ensures) kept.found;
    }

pub returns-then-not-unpaired : goal.returns-then-not-unpaired
returns-then-not-unpaired g c =
    let none : c.loop-at.unpaired ≡ false = c.if-not-unpaired.true in
    unpaired_end (g.U.Units.units c.args.units) c.loop-at.at c.loop-at.unpaired c.loop-at.after_high _
    (omega (arith, c.len.ensures.len, c.loop-at-test.false)) c.loop-at.invariant.fit c.loop-at.invariant.found
    (ap (λ b. not (b || c.loop-at.after_high)) (sym none))

pub returns-else-not-unpaired : goal.returns-else-not-unpaired
returns-else-not-unpaired g c =
    let some : c.loop-at.unpaired ≡ true = c.if-not-unpaired.false in
    unpaired_end (g.U.Units.units c.args.units) c.loop-at.at c.loop-at.unpaired c.loop-at.after_high _
    (omega (arith, c.len.ensures.len, c.loop-at-test.false)) c.loop-at.invariant.fit c.loop-at.invariant.found
    (ap not some ∙ ap (λ b. not (b || c.loop-at.after_high)) (sym some))
