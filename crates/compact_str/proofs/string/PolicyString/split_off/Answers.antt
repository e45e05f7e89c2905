-- What is kept and what is split off are the cut.
use Rattle.std.proofs.Common.{◌≡◌, List, ℕ, ap, sym, ◌∙◌, subst, arith}
use Rattle.std.proofs.lemmas.Grind.{common_steps}
use Rattle.compact_repr.specs.Cut.{IsBoundary, text_before, text_after}
use Rattle.compact_repr.specs.Value.{PlacedText}
use Rattle.compact_text.proofs.TextFacts.{text_facts}
use Rattle.compact_str.proofs.PositionLemmas.{truncate-text, text_before-boundary, boundary-cut}
use Rattle.compact_str.proofs.string.PolicyString.split_off.Goals as goal
use Rattle.compact_str.proofs.string.PolicyString.split_off.Goals.{in-Some, in-None+in_ok-repr-in-None}

pub returns-clause-cut : goal.returns-clause-cut
returns-clause-cut g c =
    let kept : c.truncate.new.self.text ≡ text_before c.args.self.now.text c.args.index =
    ap (λ (v : PlacedText). v.text) c.truncate.ensures ∙ truncate-text c.self.inside.repr c.args.index
    ∙ ap (λ (v : PlacedText). text_before v.text c.args.index) c.self.view_is in
    let tail : c.match-static_suffix.repr.text ≡ text_after c.args.self.now.text c.args.index =
    elim c.match-static_suffix.branch [
      | in-Some w ↦ grind (arith, text_facts, common_steps)
      | in-None+in_ok-repr-in-None w ↦ grind (arith, text_facts, common_steps)
    ] in
    boundary-cut c.args.self.now.text _ _ c.args.index c.requires kept tail

pub returns-clause-boundaries : goal.returns-clause-boundaries
returns-clause-boundaries g c =
    let kept : c.truncate.new.self.text ≡ text_before c.args.self.now.text c.args.index =
    ap (λ (v : PlacedText). v.text) c.truncate.ensures ∙ truncate-text c.self.inside.repr c.args.index
    ∙ ap (λ (v : PlacedText). text_before v.text c.args.index) c.self.view_is in
    λ _ i h k. subst (λ (t : List ℕ). IsBoundary t i) (sym kept)
    (text_before-boundary c.args.self.now.text i c.args.index h k)
