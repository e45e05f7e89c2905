-- The closure was called for the text, which `make_owned` left unchanged.
use Rattle.std.proofs.Common.{◌≡◌, ap, ◌∙◌}
use Rattle.std.specs.List.{filter}
use Rattle.compact_repr.specs.Value.{PlacedText}
use Rattle.compact_str.proofs.RetainLemmas.{filters}
use Rattle.compact_str.proofs.string.PolicyString.retain_by.Goals as goal

pub returns-clause-filter : goal.returns-clause-filter
returns-clause-filter g c = λ says obeys.
    let same : c.make_owned.new.self.text ≡ c.args.self.now.text = c.make_owned.ensures.text
    ∙ ap (λ (v : PlacedText). v.text) c.self.view_is in
    filters _ says obeys _ _ _ _ c.retain.ensures.text ∙ ap (filter says) same
