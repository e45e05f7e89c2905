use Rattle.compact_ext.proofs.WireLemmas.{form-has_one_text}
use Rattle.compact_ext.proofs.wire.a_form_tells_its_text.Goals as goal

pub returns : goal.returns
returns c = form-has_one_text
