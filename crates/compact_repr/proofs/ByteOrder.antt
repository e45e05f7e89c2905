-- UTF-8 preserves order: the bytes of two texts compare as their characters do. Holds of any two lists of numbers.
use Rattle.std.proofs.Common.{◌≡◌, ℕ, zero, suc, ◌+◌, ◌/◌, ◌<◌, List, [], ◌∷◌, ◌++◌, refl, sym, ap, ap₂, ◌∙◌}
use Rattle.std.proofs.Common.{arith, Ordering, inl, inr, length, slice_index_or}
use Rattle.std.specs.Prelude.{nat_eq, ◌≢◌}
use Rattle.std.specs.declared.cmp.Ordering.TheVariants.{Less, Equal, Greater}
use Rattle.std.specs.Ordering.{nat_cmp, ordering_then, ordering_reverse, is_eq}
use Rattle.std.specs.Cmp.Lexicographic.{slice_cmp, pointwise, texts_ties}
use Rattle.std.proofs.lemmas.Bool.{cases_lt, cases_order, cond-true, lt-ltb}
use Rattle.std.proofs.lemmas.Cmp.{nat_list_cmp_total, nat_cmp_total, tied_itself}
use Rattle.compact_text.specs.Text.{utf8}
use Rattle.compact_text.proofs.Encodings.{Width, one, two, three, four, width, encode_one, encode_two, encode_three}
use Rattle.compact_text.proofs.Encodings.{encode_four}
use lib.Utf8.{encode, next}

abbrev list_cmp : List ℕ → List ℕ → Ordering
list_cmp = slice_cmp nat_cmp

-- the first numbers decide, or else the rests

then_rest : (x y : ℕ) (xs ys : List ℕ) {o : Ordering} → nat_cmp x y ≡ o
    → list_cmp (x ∷ xs) (y ∷ ys) ≡ ordering_then o (list_cmp xs ys)
then_rest x y xs ys e = ap (λ (o : Ordering). ordering_then o (list_cmp xs ys)) e

first_less : (x y : ℕ) (xs ys : List ℕ) → x < y → list_cmp (x ∷ xs) (y ∷ ys) ≡ Less
first_less x y xs ys h = then_rest x y xs ys (cond-true _ _ _ (lt-ltb x y h))

first_same : (x y : ℕ) (xs ys : List ℕ) → x ≡ y → list_cmp (x ∷ xs) (y ∷ ys) ≡ list_cmp xs ys
first_same x y xs ys e =
    let tied : nat_cmp x y ≡ Equal = rw e (tied_itself nat_cmp_total y) in
    then_rest x y xs ys tied

front_same : (front xs ys : List ℕ) → list_cmp (front ++ xs) (front ++ ys) ≡ list_cmp xs ys
front_same [] xs ys = refl
front_same (x ∷ front) xs ys = first_same x x (front ++ xs) (front ++ ys) refl ∙ front_same front xs ys

turned : (xs ys : List ℕ) → list_cmp ys xs ≡ Less → list_cmp xs ys ≡ Greater
turned xs ys e = nat_list_cmp_total.antisymm xs ys ∙ ap ordering_reverse e

-- A character as a first byte, marked by `lead`, and `count` bytes of six bits each, before a rest.
abbrev spread : ℕ → ℕ → ℕ → List ℕ → List ℕ
spread zero lead c rest = (lead + c) ∷ rest
spread (suc count) lead c rest = spread count lead (c / 64) (next c ∷ rest)

-- the first byte
abbrev head : ℕ → ℕ → ℕ → ℕ
head zero lead c = lead + c
head (suc count) lead c = head count lead (c / 64)

heads_less : (m n lead mark c d : ℕ) (xs ys : List ℕ) → head m lead c < head n mark d
    → list_cmp (spread m lead c xs) (spread n mark d ys) ≡ Less
heads_less zero zero lead mark c d xs ys h = first_less (lead + c) (mark + d) xs ys h
heads_less zero (suc n) lead mark c d xs ys h = heads_less zero n lead mark c (d / 64) xs (next d ∷ ys) h
heads_less (suc m) n lead mark c d xs ys h = heads_less m n lead mark (c / 64) d (next c ∷ xs) ys h

-- with the same count and mark, the characters decide, or else the rests
spread_same : (count lead c d : ℕ) (xs ys : List ℕ) → c ≡ d → list_cmp (spread count lead c xs)
    (spread count lead d ys) ≡ list_cmp xs ys
spread_same zero lead c d xs ys e = first_same (lead + c) (lead + d) xs ys (omega (arith, e))
spread_same (suc count) lead c d xs ys e =
    spread_same count lead (c / 64) (d / 64) (next c ∷ xs) (next d ∷ ys) (omega (arith, e))
    ∙ first_same (next c) (next d) xs ys (omega (arith, e))

spread_less : (count lead c d : ℕ) (xs ys : List ℕ) → c < d → list_cmp (spread count lead c xs)
    (spread count lead d ys) ≡ Less
spread_less zero lead c d xs ys h = first_less (lead + c) (lead + d) xs ys (omega (arith, h))
spread_less (suc count) lead c d xs ys h = elim (cases_lt (c / 64) (d / 64)) [
  | inl less ↦ spread_less count lead (c / 64) (d / 64) (next c ∷ xs) (next d ∷ ys) less
  | inr same ↦
      spread_same count lead (c / 64) (d / 64) (next c ∷ xs) (next d ∷ ys) (omega (arith, h, same))
      ∙ first_less (next c) (next d) xs ys (omega (arith, h, same))
]

-- The number of bytes after the first, and its mark (Unicode Standard, 3.9, table 3-6).

count_of : {c : ℕ} → Width c → ℕ
count_of (one _) = 0
count_of (two _ _) = 1
count_of (three _ _) = 2
count_of (four _) = 3

lead_of : {c : ℕ} → Width c → ℕ
lead_of (one _) = 0
lead_of (two _ _) = 192
lead_of (three _ _) = 224
lead_of (four _) = 240

encode-spread : (c : ℕ) (w : Width c) (rest : List ℕ) → encode c ++ rest ≡ spread (count_of w) (lead_of w) c rest
unfolding count_of lead_of
encode-spread c (one h) rest = ap (λ l. l ++ rest) (encode_one c h) ∙ ap (λ (x : ℕ). x ∷ rest) (omega arith)
encode-spread c (two l h) rest = ap (λ l. l ++ rest) (encode_two c l h)
encode-spread c (three l h) rest = ap (λ l. l ++ rest) (encode_three c l h)
    ∙ ap (λ (x : ℕ). x ∷ next (c / 64) ∷ next c ∷ rest) (omega arith)
encode-spread c (four l) rest = ap (λ l. l ++ rest) (encode_four c l)
    ∙ ap₂ (λ (x y : ℕ). x ∷ y ∷ next (c / 64) ∷ next c ∷ rest) (omega arith) (omega arith)

-- the lesser of two characters has fewer bytes and a lesser first byte, or as many bytes
spreads_less : (c d : ℕ) (v : Width c) (w : Width d) (xs ys : List ℕ) → c < d
    → list_cmp (spread (count_of v) (lead_of v) c xs) (spread (count_of w) (lead_of w) d ys) ≡ Less
unfolding count_of lead_of
spreads_less c d (one _) (one _) xs ys h = spread_less 0 0 c d xs ys h
spreads_less c d (two _ _) (two _ _) xs ys h = spread_less 1 192 c d xs ys h
spreads_less c d (three _ _) (three _ _) xs ys h = spread_less 2 224 c d xs ys h
spreads_less c d (four _) (four _) xs ys h = spread_less 3 240 c d xs ys h
spreads_less c d (one a) (two _ _) xs ys h = heads_less 0 1 0 192 c d xs ys (omega arith)
spreads_less c d (one a) (three _ _) xs ys h = heads_less 0 2 0 224 c d xs ys (omega arith)
spreads_less c d (one a) (four _) xs ys h = heads_less 0 3 0 240 c d xs ys (omega arith)
spreads_less c d (two _ a) (three _ _) xs ys h = heads_less 1 2 192 224 c d xs ys (omega arith)
spreads_less c d (two _ a) (four _) xs ys h = heads_less 1 3 192 240 c d xs ys (omega arith)
spreads_less c d (three _ a) (four _) xs ys h = heads_less 2 3 224 240 c d xs ys (omega arith)
spreads_less c d (two a _) (one b) xs ys h = absurd (omega arith)
spreads_less c d (three a _) (one b) xs ys h = absurd (omega arith)
spreads_less c d (three a _) (two _ b) xs ys h = absurd (omega arith)
spreads_less c d (four a) (one b) xs ys h = absurd (omega arith)
spreads_less c d (four a) (two _ b) xs ys h = absurd (omega arith)
spreads_less c d (four a) (three _ b) xs ys h = absurd (omega arith)

encode-less : (c d : ℕ) (xs ys : List ℕ) → c < d → list_cmp (encode c ++ xs) (encode d ++ ys) ≡ Less
encode-less c d xs ys h = rw (encode-spread c (width c) xs, encode-spread d (width d) ys)
    (spreads_less c d (width c) (width d) xs ys h)

-- each character has a byte
nil-spread : (count lead c : ℕ) (xs : List ℕ) → list_cmp [] (spread count lead c xs) ≡ Less
nil-spread zero lead c xs = refl
nil-spread (suc count) lead c xs = nil-spread count lead (c / 64) (next c ∷ xs)

nil-encode : (c : ℕ) (xs : List ℕ) → list_cmp [] (encode c ++ xs) ≡ Less
nil-encode c xs = rw (encode-spread c (width c) xs) (nil-spread (count_of (width c)) (lead_of (width c)) c xs)

pub utf8-order : (s t : List ℕ) → slice_cmp nat_cmp (utf8 s) (utf8 t) ≡ slice_cmp nat_cmp s t
utf8-order [] [] = refl
utf8-order [] (d ∷ t) = nil-encode d (utf8 t)
utf8-order (c ∷ s) [] = turned (utf8 (c ∷ s)) [] (nil-encode c (utf8 s))
utf8-order (c ∷ s) (d ∷ t) = elim (cases_order c d) [
  | inl same ↦ rw same (front_same (encode d) (utf8 s) (utf8 t) ∙ utf8-order s t ∙ sym (front_same (d ∷ []) s t))
  | inr apart ↦ elim apart [
    | inl less ↦ encode-less c d (utf8 s) (utf8 t) less ∙ sym (first_less c d s t less)
    | inr less ↦
        turned (utf8 (c ∷ s)) (utf8 (d ∷ t)) (encode-less d c (utf8 t) (utf8 s) less)
        ∙ sym (turned (c ∷ s) (d ∷ t) (first_less d c t s less))
  ]
]

pub utf8-same : (s t : List ℕ) → pointwise nat_eq (utf8 s) (utf8 t) ≡ pointwise nat_eq s t
utf8-same s t = texts_ties (utf8 s) (utf8 t) ∙ ap is_eq (utf8-order s t) ∙ sym (texts_ties s t)

-- first numbers that differ decide
pub first-decides : (xs ys : List ℕ) → 0 < length xs → 0 < length ys → slice_index_or xs 0 0 ≢ slice_index_or ys 0 0
    → slice_cmp nat_cmp xs ys ≡ nat_cmp (slice_index_or xs 0 0) (slice_index_or ys 0 0)
first-decides [] ys some also apart = absurd (omega (arith, some))
first-decides (x ∷ xs) [] some also apart = absurd (omega (arith, also))
first-decides (x ∷ xs) (y ∷ ys) some also apart = elim (cases_order x y) [
  | inl same ↦ absurd (apart same)
  | inr other ↦ elim other [
    | inl less ↦ first_less x y xs ys less ∙ sym (cond-true _ _ _ (lt-ltb x y less))
    | inr less ↦ turned (x ∷ xs) (y ∷ ys) (first_less y x ys xs less)
        ∙ sym (nat_cmp_total.antisymm x y ∙ ap ordering_reverse (cond-true _ _ _ (lt-ltb y x less)))
  ]
]

pub ruleset order_facts = (utf8-order, utf8-same, first-decides)
