-- Without names there are no words and no rows.
use Rattle.std.proofs.Common.{◌≡◌, ℕ, List, false, true, length, take, ap, sym, ◌∙◌, [], map, true≢false, arith}
use Rattle.std.proofs.lemmas.List.{length-take, length-map, nil_from_length}
use Rattle.std.proofs.lemmas.List.Sorted.{length_permutation}
use Rattle.compact_uses.specs.declared.tokenizer.Token.{Token}
use Rattle.compact_uses.specs.declared.entries.Entry.{Entry}
use Rattle.compact_uses.specs.Entries.{entries_before, IsRanking}

pub no-ranks : (tokens : List Token) (n : ℕ) (ranks : List Entry) → n ≡ 0 → IsRanking (entries_before tokens n) ranks
    → ranks ≡ []
no-ranks tokens n ranks none ranked =
    let same : IsRanking [] ranks = rw none at ranked in
    nil_from_length ranks (length_permutation [] ranks same.same)

pub none-taken : {X : Type 0} (n : ℕ) (xs : List X) → xs ≡ [] → take n xs ≡ []
none-taken n xs none = nil_from_length (take n xs) (omega (arith, length-take n xs, ap length none))

pub no-rows : {X Y Z : Type 0} (f : X → Z) (g : Y → Z) (xs : List X) (ys : List Y) → map f xs ≡ map g ys → ys ≡ []
    → xs ≡ []
no-rows f g xs ys same none = nil_from_length xs (sym (length-map xs f) ∙ ap length (same ∙ ap (map g) none))

pub never-refused : (P : Type 0) → false ≡ true → P
never-refused P is = absurd (true≢false (sym is))
