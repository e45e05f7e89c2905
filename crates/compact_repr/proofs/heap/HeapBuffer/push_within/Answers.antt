use Rattle.std.proofs.lemmas.Str.{IsUtf8-append}
use Rattle.compact_repr.proofs.HeapTexts.{shown-text}
use Rattle.compact_text.proofs.SubstringLemmas.{part-text}
use Rattle.compact_repr.proofs.heap.HeapBuffer.push_within.Goals as goal

pub invariant_of-self : goal.invariant_of-self
invariant_of-self c =
    let part = part-text _ c.args.start c.args.end (shown-text _ c.self.view_is) c.self.invariant c.requires.first
    c.requires.last c.requires.order in
    rw c.append_within.ensures.items (IsUtf8-append _ _ c.self.invariant part.0)
