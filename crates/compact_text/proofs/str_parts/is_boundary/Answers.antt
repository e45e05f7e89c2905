use Rattle.std.proofs.Common.{refl}
use Rattle.compact_text.specs.Text.{text_of}
use Rattle.compact_text.proofs.CutLemmas.{boundary-bytes, boundary-text, is_boundary-test}
use Rattle.compact_text.proofs.str_parts.is_boundary.Goals as goal

pub returns-clause-boundary : goal.returns-clause-boundary
returns-clause-boundary c = (
  (λ h. boundary-text _ _ refl c.utf8.text (c.is_char_boundary.ensures.test.0 h)),
  (λ h. c.is_char_boundary.ensures.test.1 (boundary-bytes _ _ refl c.utf8.text h)),
)

pub returns-clause-value : goal.returns-clause-value
returns-clause-value c = is_boundary-test c.is_char_boundary.result (text_of c.args.text.now) c.args.index (
  (λ h. boundary-text _ _ refl c.utf8.text (c.is_char_boundary.ensures.test.0 h)),
  (λ h. c.is_char_boundary.ensures.test.1 (boundary-bytes _ _ refl c.utf8.text h)),
)
