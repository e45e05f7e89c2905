-- Texts interned in turn.
use Rattle.std.proofs.Common.{◌≡◌, ℕ, ◌+◌, ◌<◌, List, [], ◌∷◌, ◌++◌, Bool, true, false, ◌||◌, nat_eq, take, drop}
use Rattle.std.proofs.Common.{length, get_or, slice_get, Some, zero, suc, refl, ap, sym, ◌∙◌, arith, append_assoc}
use Rattle.std.proofs.Common.{append-nil}
use Rattle.std.proofs.lemmas.Grind.{common_steps}
use Rattle.std.proofs.lemmas.List.{take_more, drop_more, take-append-drop, map-append}
use Rattle.std.specs.Borrow.{Bor}
use Rattle.std.specs.List.{IsDistinct}
use Rattle.std.specs.Cmp.Lexicographic.{pointwise, nat_list_eq_equiv}
use Rattle.indexmap.specs.IndexSet.{insert_key}
use Rattle.compact_str.specs.Text.{text_of}
use Rattle.compact_str.specs.Value.{PlacedText}
use Rattle.compact_str.specs.Order.{same_text}
use Rattle.compact_edit.specs.declared.intern.InternError.{InternError}
use Rattle.compact_edit.specs.Names.{contains, distinct_texts, texts_of, AreNumbersOf, IsRefusal, InternsAll}
use Rattle.compact_edit.specs.Names.{InternsUpTo}
use Rattle.compact_edit.proofs.NameLemmas.{texts, noted, distinct_texts-push, distinct_texts-texts, new-names}

-- names stay distinct
noted-distinct : (names : List (List ℕ)) (t : List ℕ) → distinct_texts names ≡ names
    → distinct_texts (names ++ t ∷ []) ≡ noted names t
noted-distinct names t distinct = distinct_texts-push names t ∙ ap (λ others. noted others t) distinct

pub still-distinct : (names after : List (List ℕ)) (t : List ℕ) → after ≡ distinct_texts (names ++ t ∷ [])
    → distinct_texts names ≡ names → distinct_texts after ≡ after
still-distinct names after t is distinct = rw (is, noted-distinct names t distinct) (by (contains names t) refl)
  where
    by : (b : Bool) → contains names t ≡ b → distinct_texts (noted names t) ≡ noted names t
    by true there = rw there distinct
    by false absent = rw absent (noted-distinct names t distinct ∙ rw absent refl)

-- a name keeps its number

slice_get-before : (xs ys : List (List ℕ)) (i : ℕ) (x : List ℕ) → slice_get xs i ≡ Some x
    → slice_get (xs ++ ys) i ≡ Some x
slice_get-before [] ys i x at = grind (arith, common_steps)
slice_get-before (z ∷ zs) ys zero x at = at
slice_get-before (z ∷ zs) ys (suc i) x at = slice_get-before zs ys i x at

slice_get-noted : (names : List (List ℕ)) (t x : List ℕ) (i : ℕ) → slice_get names i ≡ Some x
    → slice_get (noted names t) i ≡ Some x
slice_get-noted names t x i at = by (contains names t) refl
  where
    by : (b : Bool) → contains names t ≡ b → slice_get (noted names t) i ≡ Some x
    by true there = rw there at
    by false absent = rw absent (slice_get-before names (t ∷ []) i x at)

pub kept-number : (keys : List PlacedText) (v : PlacedText) (i : ℕ) (x : List ℕ) → IsDistinct same_text keys
    → slice_get (texts keys) i ≡ Some x
    → slice_get (texts (insert_key same_text keys v)) i ≡ Some x
kept-number keys v i x distinct at =
    rw (new-names keys v distinct, noted-distinct (texts keys) v.text (distinct_texts-texts keys distinct))
    (slice_get-noted (texts keys) v.text x i at)

pub slice_get-contains : (names : List (List ℕ)) (i : ℕ) (x : List ℕ) → slice_get names i ≡ Some x
    → contains names x ≡ true
slice_get-contains [] i x at = grind (arith, common_steps)
slice_get-contains (z ∷ zs) zero x at =
    let same : z ≡ x = cc in
    rw same (rw (nat_list_eq_equiv.refl x) refl)
slice_get-contains (z ∷ zs) (suc i) x at = by (pointwise nat_eq x z) (slice_get-contains zs i x at)
  where
    by : (b : Bool) → contains zs x ≡ true → (b || contains zs x) ≡ true
    by true there = refl
    by false there = there

-- texts in turn

numbers-more : (names after : List (List ℕ)) → ((x : List ℕ) (i : ℕ) → slice_get names i ≡ Some x
    → slice_get after i ≡ Some x)
    → (ts : List (List ℕ)) (numbers : List ℕ) (t : List ℕ) (n : ℕ) → AreNumbersOf names ts numbers
    → slice_get after n ≡ Some t
    → AreNumbersOf after (ts ++ t ∷ []) (numbers ++ n ∷ [])
numbers-more names after keep [] [] t n are at = (at, tt)
numbers-more names after keep [] (m ∷ ms) t n are at = absurd are
numbers-more names after keep (x ∷ xs) [] t n are at = absurd are
numbers-more names after keep (x ∷ xs) (m ∷ ms) t n are at =
    (keep x m are.0, numbers-more names after keep xs ms t n are.1 at)

pub takes-none : (before : List (List ℕ)) (listed : List ℕ) → distinct_texts before ≡ before
    → InternsAll before [] listed before listed
takes-none before listed distinct = record {
  names = sym (ap distinct_texts (append-nil before) ∙ distinct);
  numbers = [];
  appended = sym (append-nil listed);
  places = tt;
}

pub takes-push : (before ts names after : List (List ℕ)) (listed mid now : List ℕ) (t : List ℕ) (n : ℕ)
    → InternsAll before ts listed names mid → distinct_texts names ≡ names → after ≡ distinct_texts (names ++ t ∷ [])
    → slice_get after n ≡ Some t → now ≡ mid ++ n ∷ []
    → InternsAll before (ts ++ t ∷ []) listed after now
takes-push before ts names after listed mid now t n takes distinct is at pushed =
    let noting : after ≡ noted names t = is ∙ noted-distinct names t distinct in
    record {
      names = noting ∙ ap (λ others. noted others t) takes.names ∙ sym (distinct_texts-push (before ++ ts) t)
          ∙ ap distinct_texts (append_assoc before ts (t ∷ []));
      numbers = takes.numbers ++ n ∷ [];
      appended = pushed ∙ ap (λ m. m ++ n ∷ []) takes.appended ∙ append_assoc listed takes.numbers (n ∷ []);
      places = numbers-more names after (λ x i h. rw noting (slice_get-noted names t x i h)) ts takes.numbers t n
          takes.places at;
    }

-- the first i texts, and then the next
pub takes-more : (row : List (Bor (List ℕ))) (i : ℕ) (d : Bor (List ℕ)) (before names after : List (List ℕ))
    (listed mid now : List ℕ) (n : ℕ)
    → InternsAll before (texts_of (take i row)) listed names mid → i < length row → distinct_texts names ≡ names
    → after ≡ distinct_texts (names ++ text_of (get_or row i d).now ∷ [])
    → slice_get after n ≡ Some (text_of (get_or row i d).now) → now ≡ mid ++ n ∷ []
    → InternsAll before (texts_of (take (i + 1) row)) listed after now
takes-more row i d before names after listed mid now n takes within distinct is at pushed =
    let more : texts_of (take (i + 1) row) ≡ texts_of (take i row) ++ text_of (get_or row i d).now ∷ [] =
    ap texts_of (take_more row i d within) ∙ map-append (λ (t : Bor (List ℕ)). text_of t.now) (take i row)
    (get_or row i d ∷ []) in
    rw more (takes-push before (texts_of (take i row)) names after listed mid now (text_of (get_or row i d).now) n
    takes distinct is at pushed)

-- the first i texts, and the next fails
pub stops-at : (row : List (Bor (List ℕ))) (i : ℕ) (d : Bor (List ℕ)) (before names after : List (List ℕ))
    (listed now : List ℕ) (error : InternError)
    → InternsAll before (texts_of (take i row)) listed names now → i < length row → after ≡ names
    → IsRefusal names (text_of (get_or row i d).now) error
    → InternsUpTo before (texts_of row) listed after now error
stops-at row i d before names after listed now error takes within is why = record {
  taken_texts = texts_of (take i row);
  refused_text = text_of (get_or row i d).now;
  rest = texts_of (drop (i + 1) row);
  parts =
      ap texts_of (sym (take-append-drop i row) ∙ ap (λ x. take i row ++ x) (drop_more row i d within))
      ∙ map-append (λ (t : Bor (List ℕ)). text_of t.now) (take i row) (get_or row i d ∷ drop (i + 1) row);
  takes = rw is takes;
  cause = rw is why;
}
