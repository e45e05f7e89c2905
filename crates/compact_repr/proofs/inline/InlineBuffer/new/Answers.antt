use Rattle.std.proofs.Common.{◌≡◌, length, ap, ◌∙◌, arith}
use Rattle.compact_text.specs.Text.{text_of}
use Rattle.compact_repr.proofs.PackedTexts.{packs-text, packed-again, packed-text}
use Rattle.compact_repr.proofs.inline.InlineBuffer.new.Goals as goal

pub invariant_of-result : goal.invariant_of-result
invariant_of-result c =
    let same : length c.as_bytes.result.now ≡ length c.args.text.now = ap length c.as_bytes.ensures.value in
    packed-again _ (text_of c.as_bytes.result.now) (rw c.pack.ensures
    (packs-text _ c.as_bytes.ensures.utf8 (omega (arith, same))))

pub returns : goal.returns
returns c =
    let same : length c.as_bytes.result.now ≡ length c.args.text.now = ap length c.as_bytes.ensures.value in
    packed-text c.pack.result (text_of c.as_bytes.result.now)
    (rw c.pack.ensures (packs-text c.as_bytes.result.now c.as_bytes.ensures.utf8 (omega (arith, same))))
    ∙ ap text_of c.as_bytes.ensures.value
