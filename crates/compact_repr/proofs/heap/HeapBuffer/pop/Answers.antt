use Rattle.std.proofs.Common.{refl, subst, sym}
use Rattle.std.specs.Str.{IsUtf8}
use Rattle.compact_text.proofs.CutLemmas.{text_of-last_ascii, utf8-take}
use Rattle.compact_repr.proofs.heap.HeapBuffer.pop.Goals as goal

pub invariant_of-self : goal.invariant_of-self
invariant_of-self c = (text_of-last_ascii _ _ _ c.self.invariant c.in-Some.ensures.popped c.in-Some.ensures.ascii).0

pub invariant_of-self-3 : goal.invariant_of-self-3
invariant_of-self-3 c =
    let whole = subst (λ bytes. IsUtf8 bytes.items) (sym (c.in_default.ensures.others refl)) c.self.invariant in
    rw c.shorten.ensures.items (utf8-take _ _ (sym c.as_str.ensures.text) whole c.in_ok-index.ensures.1)
