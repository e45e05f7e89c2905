-- Lists of edits.
use Rattle.std.specs.Prelude.{◌≡◌, List, [], ◌∷◌, ◌++◌}
use Rattle.compact_str.specs.Value.{PlacedText}
use Rattle.compact_str.specs.Capacity.{Growth}
use Rattle.compact_edit.specs.declared.edit.Edit.{Edit}
use Rattle.compact_edit.specs.declared.edit.Reply.{Reply}
use Rattle.compact_edit.specs.Steps.{Step}

-- one reply for each edit, and a step from value to value
abbrev pub Run : {P : Type 0} → Growth → PlacedText → List (Edit P) → List (Reply P) → PlacedText → Type 0
Run g v [] [] w = w ≡ v
Run g v (edit ∷ edits) (reply ∷ replies) w = (u : PlacedText) × Step g v edit reply u × Run g u edits replies w
Run g v [] (reply ∷ replies) w = ⊥
Run g v (edit ∷ edits) [] w = ⊥

-- the replies after those of the list are a run
abbrev pub RunsTo : {P : Type 0} → Growth → PlacedText → List (Edit P) → List (Reply P) → List (Reply P) → PlacedText
    → Type 0
RunsTo {P} g v edits before after w = (replies : List (Reply P)) × (after ≡ before ++ replies) × Run g v edits replies w
