-- What is kept may be cut where it could be cut before.
use Rattle.std.proofs.Common.{◌≡◌, List, ℕ, ap, sym, ◌∙◌, subst}
use Rattle.compact_repr.specs.Cut.{IsBoundary, text_before}
use Rattle.compact_repr.specs.Value.{PlacedText}
use Rattle.compact_str.proofs.PositionLemmas.{truncate-text, text_before-boundary}
use Rattle.compact_str.proofs.string.PolicyString.truncate.Goals as goal

pub returns-clause-boundaries : goal.returns-clause-boundaries
returns-clause-boundaries g c =
    let kept : c.truncate.new.self.text ≡ text_before c.args.self.now.text c.args.len =
    ap (λ (v : PlacedText). v.text) c.truncate.ensures ∙ truncate-text c.self.inside.repr c.args.len
    ∙ ap (λ (v : PlacedText). text_before v.text c.args.len) c.self.view_is in
    λ i h k. subst (λ (t : List ℕ). IsBoundary t i) (sym kept)
    (text_before-boundary c.args.self.now.text i c.args.len h k)
