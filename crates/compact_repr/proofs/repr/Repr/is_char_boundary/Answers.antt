use Rattle.compact_text.proofs.CutLemmas.{boundary-bytes, boundary-text}
use Rattle.compact_repr.proofs.repr.Repr.is_char_boundary.Goals as goal

pub returns-clause-boundary : goal.returns-clause-boundary
returns-clause-boundary g c = (
  (λ h. boundary-text _ _ c.as_str.ensures.text c.as_str.utf8 (c.is_char_boundary.ensures.test.0 h)),
  (λ h. c.is_char_boundary.ensures.test.1 (boundary-bytes _ _ c.as_str.ensures.text c.as_str.utf8 h)),
)
