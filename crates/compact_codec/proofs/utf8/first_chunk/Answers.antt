use Rattle.std.proofs.Common.{ap, sym, ◌∙◌, [], ◌++◌}
use Rattle.compact_text.specs.Text.{text_of}
use Rattle.compact_codec.specs.Utf8Text.{utf8_lossy_text}
use Rattle.compact_codec.proofs.Utf8TextLemmas.{whole_chunk}
use Rattle.compact_codec.proofs.utf8.first_chunk.Goals as goal

pub returns-in-Ok-clause-lossy : goal.returns-in-Ok-clause-lossy
returns-in-Ok-clause-lossy c =
    let is = c.in-Ok.ensures.text in
    (whole_chunk c.args.bytes.now is.1).1 ∙ ap (λ t. text_of t ++ utf8_lossy_text []) (sym is.0)
