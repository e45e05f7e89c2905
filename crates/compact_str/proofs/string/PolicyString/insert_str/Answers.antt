use Rattle.std.proofs.Common.{ap, refl}
use Rattle.compact_repr.specs.Value.{PlacedText}
use Rattle.compact_text.proofs.Texts.{size-text_of}
use Rattle.compact_str.proofs.PositionLemmas.{inserted-boundary, inserted-after}
use Rattle.compact_str.proofs.string.PolicyString.insert_str.Goals as goal

pub returns-then-try_replace_range-clause-boundary : goal.returns-then-try_replace_range-clause-boundary
returns-then-try_replace_range-clause-boundary g c =
    let text = ap (λ (v : PlacedText). v.text) (rw c.self.view_is at c.if-try_replace_range.ensures.replaced refl) in
    inserted-boundary c.args.self.now.text _ _ c.args.index text c.requires

pub returns-then-try_replace_range-clause-after : goal.returns-then-try_replace_range-clause-after
returns-then-try_replace_range-clause-after g c =
    let text = ap (λ (v : PlacedText). v.text) (rw c.self.view_is at c.if-try_replace_range.ensures.replaced refl) in
    inserted-after c.args.self.now.text _ _ c.args.index _ text c.requires (size-text_of c.args.text.now c.utf8.text)

pub returns-clause-boundary : goal.returns-clause-boundary
returns-clause-boundary g c =
    let text = rw c.self.view_is at rw (c.if-try_replace_range.ensures.full refl) at
    c.in_ok-insert_str_slow.ensures.text in
    inserted-boundary c.args.self.now.text _ _ c.args.index text c.requires

pub returns-clause-after : goal.returns-clause-after
returns-clause-after g c =
    let text = rw c.self.view_is at rw (c.if-try_replace_range.ensures.full refl) at
    c.in_ok-insert_str_slow.ensures.text in
    inserted-after c.args.self.now.text _ _ c.args.index _ text c.requires (size-text_of c.args.text.now c.utf8.text)
