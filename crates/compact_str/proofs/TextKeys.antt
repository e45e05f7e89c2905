-- For callers: what a map or set of values has at any bytes, before and after a call that changes one key. A call by a
-- value compares characters, and one by a `&str` bytes. Named at the caller, as `#[tactic(auto,
-- using(compact_str::proofs::TextKeys::map_facts))]`. After std's `Map.Text`.
use Rattle.std.proofs.Common.{◌≡◌, ℕ, Bool, true, false, cond, List, ◌∷◌, Option, Bor, BTreeMap, BTreeSet, HashMap}
use Rattle.std.proofs.Common.{HashSet, refl, sym, ap, subst₂, ◌∙◌, ◌⊎◌, ◌≢◌, inl, inr, ⊎_elim, bytes_eq}
use Rattle.std.specs.Map.{lookup, update, IsKeyTest, AreApart, KeepsOthers}
use Rattle.std.specs.Set.{KeepsOthers as KeepsOtherKeys}
use Rattle.std.specs.BTreeMap.{is_at}
use Rattle.std.specs.BTreeMap as btree_map
use Rattle.std.specs.BTreeSet as btree_set
use Rattle.std.specs.HashMap as hash_map
use Rattle.std.specs.HashSet as hash_set
use Rattle.std.specs.List.{list_any}
use Rattle.std.specs.Ordering.{nat_cmp, eq_by_cmp}
use Rattle.std.specs.Cmp.Lexicographic.{slice_cmp, bytes_decides, nat_list_eq_equiv, texts_ties}
use Rattle.std.proofs.lemmas.Bool.{cases_Bool, cond-true, cond-false, false≢true}
use Rattle.std.proofs.lemmas.List.Sums.{fold_more, fold_push, sum_by_more_le, sum_by_more_le_part, count_by-le-length}
use Rattle.std.proofs.lemmas.Map.Text.{is_eq-slice_cmp}
use Rattle.compact_repr.specs.Text.{utf8}
use Rattle.compact_repr.specs.Value.{PlacedText}
use Rattle.compact_repr.proofs.ByteOrder.{utf8-same}
use Rattle.compact_str.specs.Order.{same_text, text_cmp}
use Rattle.compact_str.specs.HashedKeys as hashed
use Rattle.compact_str.specs.HashedKeys.{has_bytes}
use Rattle.compact_str.specs.SortedKeys as sorted
use Rattle.compact_str.specs.SortedKeys.{bytes_cmp}

-- each test of a key tests its bytes

same_text-is : (k : PlacedText) → same_text k ≡ has_bytes (utf8 k.text)
same_text-is k = λ i x. sym (utf8-same k.text x.text) i

bytes_cmp-is : (bs : List ℕ) → is_at (bytes_cmp bs) ≡ has_bytes bs
bytes_cmp-is bs = λ i x. is_eq-slice_cmp bs (utf8 x.text) i

text_cmp-is : (k : PlacedText) → is_at (text_cmp k) ≡ has_bytes (utf8 k.text)
text_cmp-is k = (λ i x. sym (texts_ties k.text x.text) i) ∙ same_text-is k

tied-is : eq_by_cmp text_cmp ≡ same_text
tied-is = λ i x y. sym (texts_ties x.text y.text) i

one_key : (cs : List ℕ) → IsKeyTest same_text (has_bytes cs)
one_key cs x y h = nat_list_eq_equiv.congr cs (utf8 x.text) (utf8 y.text) h ∙ utf8-same x.text y.text

one_sorted_key : (cs : List ℕ) → IsKeyTest (eq_by_cmp text_cmp) (is_at (bytes_cmp cs))
one_sorted_key cs = subst₂ IsKeyTest (sym tied-is) (sym (bytes_cmp-is cs)) (one_key cs)

other_key : (bs cs : List ℕ) → bytes_eq bs cs ≡ false → AreApart (has_bytes bs) (has_bytes cs)
other_key bs cs n k y = nat_list_eq_equiv.symm cs (utf8 k.text) ∙ sym (nat_list_eq_equiv.congr bs (utf8 k.text) cs y)
    ∙ n

-- the other keys are unchanged

kept_entries : {X : Type 0} (eq : PlacedText → PlacedText → Bool) (test query : PlacedText → Bool)
    (old new : List (PlacedText × X))
    → KeepsOthers eq test old new → IsKeyTest eq query → AreApart test query → lookup query new ≡ lookup query old
unfolding KeepsOthers
kept_entries eq test query old new h one other = h query one other

kept_keys : (eq : PlacedText → PlacedText → Bool) (test query : PlacedText → Bool) (old new : List PlacedText)
    → KeepsOtherKeys eq test old new → IsKeyTest eq query → AreApart test query
    → list_any query new ≡ list_any query old
unfolding KeepsOtherKeys
kept_keys eq test query old new h one other = h query one other

module _ {A W : Type 0} (find : (PlacedText → Bool) → List A → W) (test query : PlacedText → Bool) where
  -- `test` and `query` find the same, if `query` is for the bytes bs
  abbrev pub FindsSame : List ℕ → List A → Type 0
  FindsSame bs xs = (find test xs ≡ find query xs) × (bytes_eq bs bs ≡ true)

  -- after a change at the bytes bs, found by `test`, `query` for the bytes cs finds that key or what it found before.
  -- The first two parts show `grind` the calls to match
  abbrev pub FindsAfter : Type 0 → List ℕ → List ℕ → List A → List A → Type 0
  FindsAfter Kept bs cs old new = Kept × (find query new ≡ find query new)
      × (((bytes_eq cs bs ≡ true) × (bytes_eq bs cs ≡ true) × (cs ≡ bs) × (find query new ≡ find test new)
      × (find query old ≡ find test old))
      ⊎ ((bytes_eq cs bs ≡ false) × (bytes_eq bs cs ≡ false) × (cs ≢ bs) × (find query new ≡ find query old)))

  module _ (bs cs : List ℕ) (by : test ≡ has_bytes bs) (for : query ≡ has_bytes cs) where
    finds_same : (xs : List A) → cs ≡ bs → FindsSame cs xs
    finds_same xs e = (ap (λ t. find t xs) (by ∙ ap has_bytes (sym e) ∙ sym for), nat_list_eq_equiv.refl cs)

    finds_after : (Kept : Type 0) (old new : List A) → (AreApart test query → find query new ≡ find query old) → Kept
        → FindsAfter Kept bs cs old new
    finds_after Kept old new others kept =
        let turned = nat_list_eq_equiv.symm bs cs in (
          kept,
          refl,
          ⊎_elim
              (λ y. let e = (bytes_decides cs bs).0 y in
              let found : query ≡ test = for ∙ ap has_bytes e ∙ sym by in
              inl (y, turned ∙ y, e, ap (λ t. find t new) found, ap (λ t. find t old) found))
              (λ n. inr (
                n,
                turned ∙ n,
                λ e. false≢true (sym n ∙ (bytes_decides cs bs).1 e),
                others (subst₂ AreApart (sym by) (sym for) (other_key bs cs (turned ∙ n))),
              ))
              (cases_Bool (bytes_eq cs bs)),
        )

module _ {A W : Type 0} (find : (PlacedText → Bool) → List A → W) (query : List ℕ → PlacedText → Bool)
    (for : (cs : List ℕ) → query cs ≡ has_bytes cs)
    (test : PlacedText → Bool) (bs : List ℕ) (by : test ≡ has_bytes bs) where
  -- w is found at the bytes bs, and the old values at others
  updated : (old new : List A) (w : W) → find test new ≡ w → ((cs : List ℕ) → AreApart test (query cs)
      → find (query cs) new ≡ find (query cs) old)
      → (cs : List ℕ) → find (query cs) new ≡ cond (bytes_eq bs cs) w (find (query cs) old)
  updated old new w here others cs =
      ⊎_elim
      (λ y. ap (λ t. find t new) (for cs ∙ ap has_bytes (sym ((bytes_decides bs cs).0 y)) ∙ sym by) ∙ here
      ∙ sym (cond-true (bytes_eq bs cs) w (find (query cs) old) y))
      (λ n. others cs (subst₂ AreApart (sym by) (sym (for cs)) (other_key bs cs n))
      ∙ sym (cond-false (bytes_eq bs cs) w (find (query cs) old) n))
      (cases_Bool (bytes_eq bs cs))

-- For a proof by hand: the clause `updates` of a call at a key k, and at bytes bs. Those of `HashMap` and `HashSet`
-- serve for `IndexMap` and `IndexSet`.

module _ (k : PlacedText) where
  pub hash_map_updates_key : {X S : Type 0} (m n : HashMap PlacedText X S) (w : Option X)
      → hash_map.UpdatesBy same_text (same_text k) m n w
      → (cs : List ℕ) → hashed.get_by_text n cs ≡ update bytes_eq (hashed.get_by_text m) (utf8 k.text) w cs
  hash_map_updates_key m n w h = updated lookup has_bytes (λ cs. refl) _ (utf8 k.text) (same_text-is k) m.entries
      n.entries w h.1 (λ cs. kept_entries same_text _ _ m.entries n.entries h.3 (one_key cs))

  pub btree_map_updates_key : {X : Type 0} (m n : BTreeMap PlacedText X) (w : Option X)
      → btree_map.UpdatesBy text_cmp (text_cmp k) m n w
      → (cs : List ℕ) → sorted.get_by_text n cs ≡ update bytes_eq (sorted.get_by_text m) (utf8 k.text) w cs
  btree_map_updates_key m n w h = updated lookup (λ cs. is_at (bytes_cmp cs)) bytes_cmp-is _ (utf8 k.text)
      (text_cmp-is k) m.entries n.entries w h.1 (λ cs. kept_entries (eq_by_cmp text_cmp) _ _ m.entries n.entries h.3
      (one_sorted_key cs))

  pub hash_set_updates_key : {S : Type 0} (m n : HashSet PlacedText S) (w : Bool)
      → hash_set.UpdatesBy same_text (same_text k) m n w
      → (cs : List ℕ) → hashed.contains_text n cs ≡ cond (bytes_eq (utf8 k.text) cs) w (hashed.contains_text m cs)
  hash_set_updates_key m n w h = updated list_any has_bytes (λ cs. refl) _ (utf8 k.text) (same_text-is k) m.keys
      n.keys w h.1 (λ cs. kept_keys same_text _ _ m.keys n.keys h.3 (one_key cs))

  pub btree_set_updates_key : (m n : BTreeSet PlacedText) (w : Bool) → btree_set.UpdatesBy text_cmp (text_cmp k) m n w
      → (cs : List ℕ) → sorted.contains_text n cs ≡ cond (bytes_eq (utf8 k.text) cs) w (sorted.contains_text m cs)
  btree_set_updates_key m n w h = updated list_any (λ cs. is_at (bytes_cmp cs)) bytes_cmp-is _ (utf8 k.text)
      (text_cmp-is k) m.keys n.keys w h.1 (λ cs. kept_keys (eq_by_cmp text_cmp) _ _ m.keys n.keys h.3
      (one_sorted_key cs))

module _ (bs : List ℕ) where
  pub hash_map_updates_text : {X S : Type 0} (m n : HashMap PlacedText X S) (w : Option X)
      → hash_map.UpdatesBy same_text (has_bytes bs) m n w
      → (cs : List ℕ) → hashed.get_by_text n cs ≡ update bytes_eq (hashed.get_by_text m) bs w cs
  hash_map_updates_text m n w h = updated lookup has_bytes (λ cs. refl) _ bs refl m.entries n.entries w h.1
      (λ cs. kept_entries same_text _ _ m.entries n.entries h.3 (one_key cs))

  pub btree_map_updates_text : {X : Type 0} (m n : BTreeMap PlacedText X) (w : Option X)
      → btree_map.UpdatesBy text_cmp (bytes_cmp bs) m n w
      → (cs : List ℕ) → sorted.get_by_text n cs ≡ update bytes_eq (sorted.get_by_text m) bs w cs
  btree_map_updates_text m n w h = updated lookup (λ cs. is_at (bytes_cmp cs)) bytes_cmp-is _ bs (bytes_cmp-is bs)
      m.entries n.entries w h.1 (λ cs. kept_entries (eq_by_cmp text_cmp) _ _ m.entries n.entries h.3
      (one_sorted_key cs))

  pub hash_set_updates_text : {S : Type 0} (m n : HashSet PlacedText S) (w : Bool)
      → hash_set.UpdatesBy same_text (has_bytes bs) m n w
      → (cs : List ℕ) → hashed.contains_text n cs ≡ cond (bytes_eq bs cs) w (hashed.contains_text m cs)
  hash_set_updates_text m n w h = updated list_any has_bytes (λ cs. refl) _ bs refl m.keys n.keys w h.1
      (λ cs. kept_keys same_text _ _ m.keys n.keys h.3 (one_key cs))

  pub btree_set_updates_text : (m n : BTreeSet PlacedText) (w : Bool)
      → btree_set.UpdatesBy text_cmp (bytes_cmp bs) m n w
      → (cs : List ℕ) → sorted.contains_text n cs ≡ cond (bytes_eq bs cs) w (sorted.contains_text m cs)
  btree_set_updates_text m n w h = updated list_any (λ cs. is_at (bytes_cmp cs)) bytes_cmp-is _ bs (bytes_cmp-is bs)
      m.keys n.keys w h.1 (λ cs. kept_keys (eq_by_cmp text_cmp) _ _ m.keys n.keys h.3 (one_sorted_key cs))

-- for `grind`: at a key k, as for `insert` and `entry`

module _ {X : Type 0} (k : PlacedText) (cs : List ℕ) where
  pub hash_map_key_same : (xs : List (PlacedText × X)) → cs ≡ utf8 k.text
      → FindsSame lookup (same_text k) (has_bytes cs) cs xs
  hash_map_key_same = finds_same lookup _ _ (utf8 k.text) cs (same_text-is k) refl

  pub hash_map_key_after : (old new : List (PlacedText × X)) → KeepsOthers same_text (same_text k) old new
      → FindsAfter lookup (same_text k) (has_bytes cs) (KeepsOthers same_text (same_text k) old new) (utf8 k.text) cs
      old new
  hash_map_key_after old new h = finds_after lookup _ _ (utf8 k.text) cs (same_text-is k) refl _ old new
      (kept_entries same_text _ _ old new h (one_key cs)) h

  pub btree_map_key_same : (xs : List (PlacedText × X)) → cs ≡ utf8 k.text
      → FindsSame lookup (is_at (text_cmp k)) (is_at (bytes_cmp cs)) cs xs
  btree_map_key_same = finds_same lookup _ _ (utf8 k.text) cs (text_cmp-is k) (bytes_cmp-is cs)

  pub btree_map_key_after : (old new : List (PlacedText × X))
      → KeepsOthers (eq_by_cmp text_cmp) (is_at (text_cmp k)) old new
      → FindsAfter lookup (is_at (text_cmp k)) (is_at (bytes_cmp cs))
      (KeepsOthers (eq_by_cmp text_cmp) (is_at (text_cmp k)) old new) (utf8 k.text) cs old new
  btree_map_key_after old new h = finds_after lookup _ _ (utf8 k.text) cs (text_cmp-is k) (bytes_cmp-is cs) _ old new
      (kept_entries (eq_by_cmp text_cmp) _ _ old new h (one_sorted_key cs)) h

module _ (k : PlacedText) (cs : List ℕ) where
  pub hash_set_key_same : (xs : List PlacedText) → cs ≡ utf8 k.text
      → FindsSame list_any (same_text k) (has_bytes cs) cs xs
  hash_set_key_same = finds_same list_any _ _ (utf8 k.text) cs (same_text-is k) refl

  pub hash_set_key_after : (old new : List PlacedText) → KeepsOtherKeys same_text (same_text k) old new
      → FindsAfter list_any (same_text k) (has_bytes cs) (KeepsOtherKeys same_text (same_text k) old new)
      (utf8 k.text) cs old new
  hash_set_key_after old new h = finds_after list_any _ _ (utf8 k.text) cs (same_text-is k) refl _ old new
      (kept_keys same_text _ _ old new h (one_key cs)) h

  pub btree_set_key_same : (xs : List PlacedText) → cs ≡ utf8 k.text
      → FindsSame list_any (is_at (text_cmp k)) (is_at (bytes_cmp cs)) cs xs
  btree_set_key_same = finds_same list_any _ _ (utf8 k.text) cs (text_cmp-is k) (bytes_cmp-is cs)

  pub btree_set_key_after : (old new : List PlacedText) → KeepsOtherKeys (eq_by_cmp text_cmp) (is_at (text_cmp k)) old
      new
      → FindsAfter list_any (is_at (text_cmp k)) (is_at (bytes_cmp cs))
      (KeepsOtherKeys (eq_by_cmp text_cmp) (is_at (text_cmp k)) old new) (utf8 k.text) cs old new
  btree_set_key_after old new h = finds_after list_any _ _ (utf8 k.text) cs (text_cmp-is k) (bytes_cmp-is cs) _ old
      new (kept_keys (eq_by_cmp text_cmp) _ _ old new h (one_sorted_key cs)) h

-- at a `&str` q, as for `get`, `get_mut` and `remove`

module _ {X : Type 0} (q : Bor (List ℕ)) (cs : List ℕ) where
  pub hash_map_text_same : (xs : List (PlacedText × X)) → cs ≡ q.now
      → FindsSame lookup (λ k. bytes_eq q.now (utf8 k.text)) (has_bytes cs) cs xs
  hash_map_text_same = finds_same lookup _ _ q.now cs refl refl

  pub hash_map_text_after : (old new : List (PlacedText × X))
      → KeepsOthers same_text (λ k. bytes_eq q.now (utf8 k.text)) old new
      → FindsAfter lookup (λ k. bytes_eq q.now (utf8 k.text)) (has_bytes cs)
      (KeepsOthers same_text (λ k. bytes_eq q.now (utf8 k.text)) old new) q.now cs old new
  hash_map_text_after old new h = finds_after lookup _ _ q.now cs refl refl _ old new
      (kept_entries same_text _ _ old new h (one_key cs)) h

  pub btree_map_text_same : (xs : List (PlacedText × X)) → cs ≡ q.now
      → FindsSame lookup (is_at (λ k. slice_cmp nat_cmp q.now (utf8 k.text))) (is_at (bytes_cmp cs)) cs xs
  btree_map_text_same = finds_same lookup _ _ q.now cs (bytes_cmp-is q.now) (bytes_cmp-is cs)

  pub btree_map_text_after : (old new : List (PlacedText × X))
      → KeepsOthers (eq_by_cmp text_cmp) (is_at (λ k. slice_cmp nat_cmp q.now (utf8 k.text))) old new
      → FindsAfter lookup (is_at (λ k. slice_cmp nat_cmp q.now (utf8 k.text))) (is_at (bytes_cmp cs))
      (KeepsOthers (eq_by_cmp text_cmp) (is_at (λ k. slice_cmp nat_cmp q.now (utf8 k.text))) old new) q.now cs old
      new
  btree_map_text_after old new h = finds_after lookup _ _ q.now cs (bytes_cmp-is q.now) (bytes_cmp-is cs) _ old new
      (kept_entries (eq_by_cmp text_cmp) _ _ old new h (one_sorted_key cs)) h

module _ (q : Bor (List ℕ)) (cs : List ℕ) where
  pub hash_set_text_same : (xs : List PlacedText) → cs ≡ q.now
      → FindsSame list_any (λ k. bytes_eq q.now (utf8 k.text)) (has_bytes cs) cs xs
  hash_set_text_same = finds_same list_any _ _ q.now cs refl refl

  pub hash_set_text_after : (old new : List PlacedText) → KeepsOtherKeys same_text (λ k. bytes_eq q.now (utf8 k.text))
      old new
      → FindsAfter list_any (λ k. bytes_eq q.now (utf8 k.text)) (has_bytes cs)
      (KeepsOtherKeys same_text (λ k. bytes_eq q.now (utf8 k.text)) old new) q.now cs old new
  hash_set_text_after old new h = finds_after list_any _ _ q.now cs refl refl _ old new
      (kept_keys same_text _ _ old new h (one_key cs)) h

  pub btree_set_text_same : (xs : List PlacedText) → cs ≡ q.now
      → FindsSame list_any (is_at (λ k. slice_cmp nat_cmp q.now (utf8 k.text))) (is_at (bytes_cmp cs)) cs xs
  btree_set_text_same = finds_same list_any _ _ q.now cs (bytes_cmp-is q.now) (bytes_cmp-is cs)

  pub btree_set_text_after : (old new : List PlacedText) → KeepsOtherKeys (eq_by_cmp text_cmp)
      (is_at (λ k. slice_cmp nat_cmp q.now (utf8 k.text))) old new
      → FindsAfter list_any (is_at (λ k. slice_cmp nat_cmp q.now (utf8 k.text))) (is_at (bytes_cmp cs))
      (KeepsOtherKeys (eq_by_cmp text_cmp) (is_at (λ k. slice_cmp nat_cmp q.now (utf8 k.text))) old new) q.now cs
      old new
  btree_set_text_after old new h = finds_after list_any _ _ q.now cs (bytes_cmp-is q.now) (bytes_cmp-is cs) _ old new
      (kept_keys (eq_by_cmp text_cmp) _ _ old new h (one_sorted_key cs)) h

-- `grind` computes the test of a literal, as in `get("abc")`; these restore the name of the test

module _ {X : Type 0} (c : ℕ) (cs : List ℕ) (xs : List (PlacedText × X)) where
  pub hash_map_literal : lookup (λ k. bytes_eq (c ∷ cs) (utf8 k.text)) xs ≡ lookup (has_bytes (c ∷ cs)) xs
  hash_map_literal = refl

  pub btree_map_literal : lookup (is_at (λ k. slice_cmp nat_cmp (c ∷ cs) (utf8 k.text))) xs
      ≡ lookup (is_at (bytes_cmp (c ∷ cs))) xs
  btree_map_literal = refl

module _ (c : ℕ) (cs : List ℕ) (xs : List PlacedText) where
  pub hash_set_literal : list_any (λ k. bytes_eq (c ∷ cs) (utf8 k.text)) xs ≡ list_any (has_bytes (c ∷ cs)) xs
  hash_set_literal = refl

  pub btree_set_literal : list_any (is_at (λ k. slice_cmp nat_cmp (c ∷ cs) (utf8 k.text))) xs
      ≡ list_any (is_at (bytes_cmp (c ∷ cs))) xs
  btree_set_literal = refl

-- the last five are for a count or total of each key, in a loop
pub ruleset map_facts = (
  hash_map_key_same,
  hash_map_key_after,
  btree_map_key_same,
  btree_map_key_after,
  hash_set_key_same,
  hash_set_key_after,
  btree_set_key_same,
  btree_set_key_after,
  hash_map_text_same,
  hash_map_text_after,
  btree_map_text_same,
  btree_map_text_after,
  hash_set_text_same,
  hash_set_text_after,
  btree_set_text_same,
  btree_set_text_after,
  hash_map_literal,
  btree_map_literal,
  hash_set_literal,
  btree_set_literal,
  fold_more,
  fold_push,
  sum_by_more_le,
  sum_by_more_le_part,
  count_by-le-length,
)
