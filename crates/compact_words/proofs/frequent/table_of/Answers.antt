use Rattle.std.proofs.Common.{◌≡◌, ℕ, ◌+◌, ◌<◌, ◌≤◌, List, [], ◌∷◌, ◌++◌, false, Result, Ok, Err, length, get_or}
use Rattle.std.proofs.Common.{if◌then◌else◌, map, take, min, ap, sym, ◌∙◌, true≢false, arith}
use Rattle.std.specs.Result.{is_err, is_ok}
use Rattle.std.proofs.lemmas.List.{length-take, map-append, map_more, take_all, take_min}
use Rattle.std.proofs.lemmas.Result.{IfOk-from_err}
use Rattle.compact_str.specs.Order.{text_in}
use Rattle.compact_words.specs.Reports.{entry_fields}
use Rattle.compact_words.proofs.frequent.table_of.Goals as goal

pushed : {X E A : Type 0} (r : Result X E) (xs old new : List A) → false ≡ is_err r
    → xs ≡ (if is_ok r then new else old) → xs ≡ new
pushed (Ok _) xs old new taken is = is
pushed (Err _) xs old new taken is = absurd (true≢false (sym taken))

module _ {X Y Z : Type 0} (f : X → Z) (g : Y → Z) where
  rows-more : (rows after : List X) (shown : List Y) (i : ℕ) (row : X) (d : Y) → i < length shown
      → after ≡ rows ++ row ∷ [] → f row ≡ g (get_or shown i d)
      → map f rows ≡ map g (take i shown) → map f after ≡ map g (take (i + 1) shown)
  rows-more rows after shown i row d within more is before =
      ap (map f) more ∙ map-append f rows (row ∷ []) ∙ ap (λ l. l ++ f row ∷ []) before
      ∙ ap (λ z. map g (take i shown) ++ z ∷ []) is ∙ sym (map_more g shown i d within)

  rows-all : (rows : List X) (ranks : List Y) (most n i : ℕ) → n ≡ min most (length ranks) → length (take n ranks) ≤ i
      → map f rows ≡ map g (take i (take n ranks))
      → map f rows ≡ map g (take most ranks)
  rows-all rows ranks most n i is all before =
      before ∙ ap (map g) (take_all i (take n ranks) all ∙ ap (λ k. take k ranks) is ∙ take_min most ranks)

none-shown : {X : Type 0} (P : Type 0) (ranks : List X) (most n i : ℕ) → n ≡ min most (length ranks)
    → i < length (take n ranks) → take most ranks ≡ [] → P
none-shown P ranks most n i is within none = absurd (omega (
  arith,
  length-take most ranks,
  length-take n ranks,
  ap length none,
  is,
  within,
))

pub loop-entry-preserved : goal.loop-entry-preserved
loop-entry-preserved c =
    rows-more (λ fields. map text_in fields.items) (entry_fields c.args.names.now) _ _ _ _ _ _ c.loop-entry-test.true
    (pushed _ _ _ _ c.if-is_err.ensures.value c.push.ensures.items) c.in_ok-fields.ensures c.loop-entry.invariant

pub returns-in_err-fields-clause-records : goal.returns-in_err-fields-clause-records
returns-in_err-fields-clause-records c = IfOk-from_err _ _ c.from_residual.ensures.0

pub returns-in_err-fields-clause-empty : goal.returns-in_err-fields-clause-empty
returns-in_err-fields-clause-empty c = none-shown _ _ _ _ _ c.min.ensures c.loop-entry-test.true

pub returns-clause-records : goal.returns-clause-records
returns-clause-records c = rows-all (λ fields. map text_in fields.items) (entry_fields c.args.names.now) _ _ _ _ _
    c.min.ensures c.loop-entry-test.false c.loop-entry.invariant

pub returns-then-is_err-clause-empty : goal.returns-then-is_err-clause-empty
returns-then-is_err-clause-empty c = none-shown _ _ _ _ _ c.min.ensures c.loop-entry-test.true
