-- Collected characters. `adapter_facts` is for callers. The others are for proofs by hand, as std's `text_from_collect`
-- for a `String`: the text of the value from the clause `ran` of `collect` and from what the adapters yield.
use Rattle.std.proofs.Common.{◌≡◌, ℕ, List, reverse, take, true, Option, Result, IfOk, refl, sym, ap, ◌∙◌}
use Rattle.std.specs.Prelude.{⊤}
use Rattle.std.specs.Iterator.{DrainsIf}
use Rattle.std.specs.Iterator.Runs.{Run}
use Rattle.std.specs.Iterator.Adapters.{take_source, take_count, take_steps}
use Rattle.std.specs.Str.{IsUtf8}
use Rattle.std.specs.Str.Iter.{chars_rest}
use Rattle.std.proofs.iter.TextItems.{spells}
use Rattle.std.proofs.iter.runs.Made.{took}
use Rattle.std.proofs.lemmas.Iterator.{YieldsList, YieldsList-from_chars, YieldsList-from_take, items_from_drains}
use Rattle.std.proofs.lemmas.List.{map-id, reverse-reverse}
use Rattle.std.proofs.lemmas.Result.{IfOk-weaker}
use Rattle.std.proofs.lemmas.Str.{chars_from_encodes}
use Rattle.compact_repr.specs.Text.{text_of, utf8}
use Rattle.compact_repr.specs.Value.{PlacedText}
use Rattle.compact_str.specs.Room.{IsPlacedBySize}

module _ {S E : Type 0} {steps : S → Option ℕ → S → Type 0} {s : S} {all : List ℕ} (r : Result PlacedText E)
    (ran : IfOk r (λ v. (xs : List ℕ) × DrainsIf steps ⊤ s xs × ((v.text ≡ xs) × IsPlacedBySize v)))
    (yields : YieldsList steps (λ x. x) s all) where
  pub text_from_collect : IfOk r (λ v. v.text ≡ all)
  text_from_collect = IfOk-weaker r _ _ (λ v d. d.2.0 ∙ sym (map-id d.0) ∙ items_from_drains d.0 d.1 yields) ran

  pub bytes_from_collect : IfOk r (λ v. utf8 v.text ≡ utf8 all)
  bytes_from_collect = IfOk-weaker r _ _ (λ v e. ap utf8 e) text_from_collect

-- `chars().take(n)`: all that it gives
pub taken_chars : (run : Run (take_steps spells)) → run.whole ≡ true → IsUtf8 (chars_rest (take_source run.from))
    → run.items ≡ take (take_count run.from) (text_of (chars_rest (take_source run.from)))
taken_chars run whole valid =
    let all = took run in
    let yields = YieldsList-from_take {s = run.from} _ (YieldsList-from_chars _ valid refl) refl in
    sym (map-id run.items) ∙ items_from_drains run.items (all.0, all.1, λ _. all.2 whole) yields

-- `chars().rev()`
pub reversed_chars : (t bytes : List ℕ) → IsUtf8 bytes → utf8 (reverse t) ≡ bytes → t ≡ reverse (text_of bytes)
reversed_chars t bytes valid e = sym (reverse-reverse t) ∙ ap reverse (chars_from_encodes (reverse t) bytes valid e)

-- `collect` after `take`, `skip`, `rev`, `filter` or `map` of `chars`
pub ruleset adapter_facts = (chars_from_encodes, taken_chars, reversed_chars)
