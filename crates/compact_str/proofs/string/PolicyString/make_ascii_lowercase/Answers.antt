use Rattle.std.proofs.Common.{ℕ, List, ap, sym, subst, ◌∙◌}
use Rattle.compact_repr.specs.Text.{ascii_lowercase}
use Rattle.compact_repr.specs.Cut.{IsBoundary}
use Rattle.compact_repr.specs.Value.{PlacedText}
use Rattle.compact_text.proofs.AsciiCase.{boundary-lowercase}
use Rattle.compact_str.proofs.string.PolicyString.make_ascii_lowercase.Goals as goal

pub returns-clause-boundaries : goal.returns-clause-boundaries
returns-clause-boundaries g c =
    let text = ap (λ (v : PlacedText). v.text) c.convert_case.ensures
    ∙ ap ascii_lowercase (c.make_owned.ensures.text ∙ ap (λ (v : PlacedText). v.text) c.self.view_is) in
    λ i h. subst (λ (t : List ℕ). IsBoundary t i) (sym text) (boundary-lowercase c.args.self.now.text i h)
