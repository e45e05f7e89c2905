use Rattle.std.proofs.Common.{◌≡◌, [], ◌∙◌, ap, take, arith, refl}
use Rattle.std.specs.List.{replace_range}
use Rattle.compact_text.proofs.CutLemmas.{boundary-within, text_of-removed, utf8-removed}
use Rattle.compact_repr.proofs.HeapTexts.{shown-text, shown-capacity, shown-size, written, whole}
use Rattle.compact_repr.proofs.heap.HeapBuffer.remove_range.Goals as goal

now : (c : goal.After-truncate) → c.truncate.new.self.items ≡ replace_range c.self.inside.bytes.items c.args.start
    c.args.end []
now c =
    c.truncate.ensures.items
    ∙ ap (take _) (written c.self.inside.bytes.items c.remove_range.new.slice c.self.inside.bytes.len (omega arith)
    (omega arith))
    ∙ c.remove_range.ensures
    ∙ rw (
      c.as_mut_slice.ensures.value,
      c.len-len.ensures,
      whole c.self.inside.bytes.items c.self.inside.bytes.len
          (omega arith),
    ) refl

pub overflow_sub-len : goal.overflow_sub-len
overflow_sub-len c = omega (arith, shown-size _ c.self.view_is c.self.invariant, boundary-within _ _ c.requires.last)

pub invariant_of-self : goal.invariant_of-self
invariant_of-self c = rw (now c) (utf8-removed _ c.args.start c.args.end (shown-text _ c.self.view_is)
    c.self.invariant c.requires.first c.requires.last)

pub returns : goal.returns
returns c =
    rw (
      now c,
      text_of-removed _ c.args.start c.args.end (shown-text _ c.self.view_is) c.self.invariant
          c.requires.first c.requires.last,
      c.truncate.ensures.capacity,
      shown-capacity _ c.self.view_is,
    ) refl
