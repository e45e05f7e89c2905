use Rattle.std.proofs.Common.{ap, refl}
use Rattle.compact_repr.specs.Value.{PlacedText}
use Rattle.compact_str.proofs.PositionLemmas.{inserted-boundary, inserted-character_after}
use Rattle.compact_str.proofs.string.PolicyString.insert.Goals as goal

pub returns-then-try_insert-clause-boundary : goal.returns-then-try_insert-clause-boundary
returns-then-try_insert-clause-boundary g c =
    let text = ap (λ (v : PlacedText). v.text) (rw c.self.view_is at c.if-try_insert.ensures.inserted refl) in
    inserted-boundary c.args.self.now.text _ _ c.args.index text c.requires

pub returns-then-try_insert-clause-after : goal.returns-then-try_insert-clause-after
returns-then-try_insert-clause-after g c =
    let text = ap (λ (v : PlacedText). v.text) (rw c.self.view_is at c.if-try_insert.ensures.inserted refl) in
    inserted-character_after c.args.self.now.text _ c.args.index _ text c.requires

pub returns-clause-boundary : goal.returns-clause-boundary
returns-clause-boundary g c =
    let text = rw c.self.view_is at rw (c.if-try_insert.ensures.full refl) at c.in_ok-insert_slow.ensures.text in
    inserted-boundary c.args.self.now.text _ _ c.args.index text c.requires

pub returns-clause-after : goal.returns-clause-after
returns-clause-after g c =
    let text = rw c.self.view_is at rw (c.if-try_insert.ensures.full refl) at c.in_ok-insert_slow.ensures.text in
    inserted-character_after c.args.self.now.text _ c.args.index _ text c.requires
