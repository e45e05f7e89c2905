-- Where the bytes may be cut, the text may.
use Rattle.std.proofs.Common.{ap, ◌∙◌}
use Rattle.compact_repr.specs.Value.{PlacedText}
use Rattle.compact_text.proofs.CutLemmas.{boundary-text}
use Rattle.compact_str.proofs.string.PolicyString.as_str.Goals as goal

pub returns-clause-boundaries : goal.returns-clause-boundaries
returns-clause-boundaries g c =
    λ i h. boundary-text c.as_str.result.now i (c.as_str.ensures.text
    ∙ ap (λ (v : PlacedText). v.text) c.self.view_is) c.as_str.utf8 h
