-- The keys of a set of values, as texts: with one more key they are the distinct texts, by first occurrence.
use Rattle.std.proofs.Common.{◌≡◌, ℕ, ◌<◌, List, [], ◌∷◌, ◌++◌, Bool, true, false, ◌||◌, if◌then◌else◌, IsTrue, nat_eq}
use Rattle.std.proofs.Common.{map, position, slice_get, get_or, length, Some, zero, suc, refl, ap, ap₂, sym, ◌∙◌, arith}
use Rattle.std.proofs.lemmas.Grind.{common_steps}
use Rattle.std.proofs.lemmas.Option.{slice_get-map, slice_get-get_or}
use Rattle.std.proofs.lemmas.List.{map-append}
use Rattle.std.proofs.lemmas.List.Quantifiers.{position-Some}
use Rattle.std.specs.Option.{option_map}
use Rattle.std.specs.List.{list_any, AllByRecursion, IsDistinct}
use Rattle.std.specs.Cmp.Lexicographic.{pointwise, bytes_decides, nat_list_eq_equiv}
use Rattle.std.specs.Str.{IsUtf8, bytes_eq}
use Rattle.indexmap.specs.IndexSet.{insert_key}
use Rattle.compact_str.specs.Text.{size, text_of, utf8}
use Rattle.compact_str.specs.Value.{PlacedText}
use Rattle.compact_str.specs.Capacity.{with_capacity_allocates}
use Rattle.compact_str.specs.Order.{text_in, same_text}
use Rattle.compact_str.proofs.ForCallers.{size-text_of, utf8-text_of, texts-from_same}
use Rattle.compact_str.proofs.TextBytes.{utf8-same}
use Rattle.compact_edit.specs.Names.{contains, texts_without, distinct_texts}

abbrev pub texts : List PlacedText → List (List ℕ)
texts keys = map text_in keys

-- ts with t appended, unless it is among them
abbrev pub noted : List (List ℕ) → List ℕ → List (List ℕ)
noted ts t = if contains ts t then ts else ts ++ t ∷ []

-- the distinct texts with one more text

texts_without-push : (t u : List ℕ) (ts : List (List ℕ)) → texts_without t (ts ++ u ∷ [])
    ≡ (if pointwise nat_eq t u then texts_without t ts else texts_without t ts ++ u ∷ [])
texts_without-push t u [] = grind (arith, common_steps)
texts_without-push t u (x ∷ xs) = grind (arith, common_steps, texts_without-push t u xs)

-- removing t keeps every other text
contains-texts_without : (t u : List ℕ) (ts : List (List ℕ)) → pointwise nat_eq t u ≡ false
    → contains (texts_without t ts) u ≡ contains ts u
contains-texts_without t u [] other = refl
contains-texts_without t u (x ∷ xs) other = by (pointwise nat_eq t x) refl (contains-texts_without t u xs other)
  where
    by : (b : Bool) → pointwise nat_eq t x ≡ b → contains (texts_without t xs) u ≡ contains xs u
        → contains (texts_without t (x ∷ xs)) u ≡ contains (x ∷ xs) u
    by true same rest =
        let apart : pointwise nat_eq u x ≡ false = nat_list_eq_equiv.symm u x
        ∙ sym (nat_list_eq_equiv.congr t x u same) ∙ other in
        rw (same, apart) rest
    by false apart rest = rw apart (ap (λ (b : Bool). pointwise nat_eq u x || b) rest)

pub distinct_texts-push : (ts : List (List ℕ)) (t : List ℕ) → distinct_texts (ts ++ t ∷ [])
    ≡ noted (distinct_texts ts) t
distinct_texts-push [] t = refl
distinct_texts-push (x ∷ xs) t = ap (λ rest. x ∷ texts_without x rest) (distinct_texts-push xs t)
    ∙ by (pointwise nat_eq x t) refl (contains (distinct_texts xs) t) refl
  where
    by : (b : Bool) → pointwise nat_eq x t ≡ b → (a : Bool) → contains (distinct_texts xs) t ≡ a
        → x ∷ texts_without x (noted (distinct_texts xs) t) ≡ noted (distinct_texts (x ∷ xs)) t
    by true same a there =
        let back : pointwise nat_eq t x ≡ true = nat_list_eq_equiv.symm t x ∙ same in
        let dropped : texts_without x (noted (distinct_texts xs) t) ≡ texts_without x (distinct_texts xs) =
        grind (arith, common_steps, texts_without-push x t (distinct_texts xs)) in
        rw (dropped, back) refl
    by false apart a there =
        let back : pointwise nat_eq t x ≡ false = nat_list_eq_equiv.symm t x ∙ apart in
        let still : contains (texts_without x (distinct_texts xs)) t ≡ contains (distinct_texts xs) t =
        contains-texts_without x t (distinct_texts xs) apart in
        grind (arith, common_steps, texts_without-push x t (distinct_texts xs), back, still)

-- the texts of distinct keys are distinct

texts_without-apart : (v : PlacedText) (keys : List PlacedText) → AllByRecursion (λ k. same_text v k ≡ false) keys
    → texts_without v.text (texts keys) ≡ texts keys
texts_without-apart v [] apart = refl
texts_without-apart v (k ∷ keys) apart = rw apart.0 (ap (λ rest. k.text ∷ rest) (texts_without-apart v keys apart.1))

pub distinct_texts-texts : (keys : List PlacedText) → IsDistinct same_text keys
    → distinct_texts (texts keys) ≡ texts keys
unfolding IsDistinct
distinct_texts-texts [] distinct = refl
distinct_texts-texts (k ∷ keys) distinct =
    ap (λ rest. k.text ∷ texts_without k.text rest) (distinct_texts-texts keys distinct.1)
    ∙ ap (λ rest. k.text ∷ rest) (texts_without-apart k keys distinct.0)

-- the names after a key is inserted, or found

list_any-same_text : (v : PlacedText) (keys : List PlacedText)
    → list_any (same_text v) keys ≡ contains (texts keys) v.text
list_any-same_text v [] = refl
list_any-same_text v (k ∷ keys) = ap (λ (b : Bool). same_text v k || b) (list_any-same_text v keys)

texts-insert : (keys : List PlacedText) (v : PlacedText) → texts (insert_key same_text keys v)
    ≡ noted (texts keys) v.text
texts-insert keys v = grind (arith, common_steps, list_any-same_text v keys, map-append text_in keys (v ∷ []))

pub new-names : (keys : List PlacedText) (v : PlacedText) → IsDistinct same_text keys
    → texts (insert_key same_text keys v) ≡ distinct_texts (texts keys ++ v.text ∷ [])
new-names keys v distinct =
    texts-insert keys v ∙ ap (λ names. noted names v.text) (sym (distinct_texts-texts keys distinct))
    ∙ sym (distinct_texts-push (texts keys) v.text)

pub known-names : (keys : List PlacedText) (v : PlacedText) → IsDistinct same_text keys
    → list_any (same_text v) keys ≡ true → texts keys ≡ distinct_texts (texts keys ++ v.text ∷ [])
known-names keys v distinct there = ap (λ (b : Bool). texts (if b then keys else keys ++ v ∷ [])) (sym there)
    ∙ new-names keys v distinct

-- the number of a key is its index

pub number-of-same : (keys : List PlacedText) (v k : PlacedText) (i : ℕ) → slice_get keys i ≡ Some k
    → same_text v k ≡ true → slice_get (texts keys) i ≡ Some v.text
number-of-same keys v k i at same = slice_get-map text_in keys i ∙ ap (option_map text_in) at
    ∙ ap Some (sym (texts-from_same v k same))

pub number-of-known : (keys : List PlacedText) (v : PlacedText) (i : ℕ) → position (same_text v) keys ≡ Some i
    → slice_get (texts keys) i ≡ Some v.text
number-of-known keys v i at =
    let found = position-Some (same_text v) keys i v at in
    number-of-same keys v (get_or keys i v) i (slice_get-get_or keys i v found.0) found.1

-- a text is found by its bytes

bytes_eq-utf8 : (bytes : List ℕ) (k : PlacedText) → IsUtf8 bytes
    → bytes_eq bytes (utf8 k.text) ≡ pointwise nat_eq (text_of bytes) k.text
bytes_eq-utf8 bytes k is_text = ap (λ b. bytes_eq b (utf8 k.text)) (sym (utf8-text_of bytes is_text))
    ∙ utf8-same (text_of bytes) k.text

pub list_any-bytes_eq : (bytes : List ℕ) (keys : List PlacedText) → IsUtf8 bytes
    → list_any (λ (k : PlacedText). bytes_eq bytes (utf8 k.text)) keys ≡ contains (texts keys) (text_of bytes)
list_any-bytes_eq bytes [] is_text = refl
list_any-bytes_eq bytes (k ∷ keys) is_text = ap₂ (λ (a b : Bool). a || b) (bytes_eq-utf8 bytes k is_text)
    (list_any-bytes_eq bytes keys is_text)

pub position-bytes_eq : (bytes : List ℕ) (keys : List PlacedText) (i : ℕ) → IsUtf8 bytes
    → position (λ (k : PlacedText). bytes_eq bytes (utf8 k.text)) keys ≡ Some i
    → slice_get (texts keys) i ≡ Some (text_of bytes)
position-bytes_eq bytes [] i is_text at = grind (arith, common_steps)
position-bytes_eq bytes (k ∷ keys) i is_text at =
    let found = position-Some (λ (k : PlacedText). bytes_eq bytes (utf8 k.text)) (k ∷ keys) i k at in
    let same : text_of bytes ≡ (get_or (k ∷ keys) i k).text =
    (bytes_decides (text_of bytes) (get_or (k ∷ keys) i k).text).0
    (sym (bytes_eq-utf8 bytes (get_or (k ∷ keys) i k) is_text) ∙ found.1) in
    slice_get-map text_in (k ∷ keys) i ∙ ap (option_map text_in) (slice_get-get_or (k ∷ keys) i k found.0)
    ∙ ap Some (sym same)

pub number-bytes_eq : (bytes : List ℕ) (keys : List PlacedText) → IsUtf8 bytes
    → position (λ (k : PlacedText). bytes_eq bytes (utf8 k.text)) keys
    ≡ position (pointwise nat_eq (text_of bytes)) (texts keys)
number-bytes_eq bytes [] is_text = refl
number-bytes_eq bytes (k ∷ keys) is_text = grind (
  arith,
  common_steps,
  bytes_eq-utf8 bytes k is_text,
  number-bytes_eq bytes keys is_text,
)

-- a text has one number

not-before : (v : PlacedText) (keys : List PlacedText) (t : List ℕ) (n : ℕ)
    → AllByRecursion (λ k. same_text v k ≡ false) keys
    → slice_get (texts keys) n ≡ Some t → pointwise nat_eq t v.text ≡ false
not-before v [] t n apart at = grind (arith, common_steps)
not-before v (k ∷ keys) t zero apart at =
    let is : k.text ≡ t = cc in
    nat_list_eq_equiv.symm t v.text ∙ ap (pointwise nat_eq v.text) (sym is) ∙ apart.0
not-before v (k ∷ keys) t (suc n) apart at = not-before v keys t n apart.1 at

pub known-number : (keys : List PlacedText) (t : List ℕ) (n : ℕ) → IsDistinct same_text keys
    → slice_get (texts keys) n ≡ Some t → position (pointwise nat_eq t) (texts keys) ≡ Some n
unfolding IsDistinct
known-number [] t n distinct at = grind (arith, common_steps)
known-number (k ∷ keys) t zero distinct at =
    let is : k.text ≡ t = cc in
    let same : pointwise nat_eq t k.text ≡ true = ap (pointwise nat_eq t) is ∙ nat_list_eq_equiv.refl t in
    grind (arith, common_steps, same)
known-number (k ∷ keys) t (suc n) distinct at =
    grind (arith, common_steps, not-before k keys t n distinct.0 at, known-number keys t n distinct.1 at)

pub known-text : (keys : List PlacedText) (t : List ℕ) → IsDistinct same_text keys → contains (texts keys) t ≡ true
    → texts keys ≡ distinct_texts (texts keys ++ t ∷ [])
known-text keys t distinct there =
    ap (λ (b : Bool). if b then texts keys else texts keys ++ t ∷ []) (sym there)
    ∙ ap (λ names. noted names t) (sym (distinct_texts-texts keys distinct))
    ∙ sym (distinct_texts-push (texts keys) t)

-- a text whose copy allocated has more than 24 bytes
pub allocated-long : (bytes : List ℕ) → IsUtf8 bytes → IsTrue (with_capacity_allocates (length bytes))
    → 24 < size (text_of bytes)
allocated-long bytes is_text asked = grind (arith, common_steps, size-text_of)
