-- The bytes of a text decode to it, and their boundaries are its own: also of numbers that are no characters, so no
-- fact
-- on the text is needed.
use Rattle.std.proofs.Common.{◌≡◌, ℕ, zero, suc, ◌+◌, ◌-◌, ◌<◌, ◌≤◌, ◌⊎◌, inl, inr, List, [], ◌∷◌, ◌++◌}
use Rattle.std.proofs.Common.{length, get_or, refl, ap, sym, subst, ◌∙◌, arith, append_assoc, append-nil, length-append}
use Rattle.std.proofs.lemmas.Bool.{cases_lt}
use Rattle.std.proofs.lemmas.Bool.Decides.{nat_tests}
use Rattle.std.proofs.lemmas.List.{get_or-append-add}
use Rattle.std.proofs.lemmas.Str.{chars-nil, encodes-append, length-encode, len_utf8_bounds}
use Rattle.std.specs.Char.{len_utf8, encode_utf8}
use Rattle.std.specs.Str.{IsCharBoundary}
use lib.Utf8.{encode}
use Rattle.compact_repr.specs.Text.{size, text_of, utf8}
use Rattle.compact_repr.specs.Cut.{IsBoundary}
use Rattle.compact_text.proofs.Texts.{length-utf8}
use Rattle.compact_str.proofs.Literals.{text_of-one, text_of-two, text_of-three, text_of-four}

number-text : (c : ℕ) (bytes : List ℕ) → text_of (encode_utf8 c ++ bytes) ≡ c ∷ text_of bytes
unfolding encode
number-text c bytes = grind (arith, nat_tests, text_of-one, text_of-two, text_of-three, text_of-four)

pub text_of-utf8_append : (t bytes : List ℕ) → text_of (utf8 t ++ bytes) ≡ t ++ text_of bytes
text_of-utf8_append [] bytes = refl
text_of-utf8_append (c ∷ cs) bytes =
    ap text_of (append_assoc (encode_utf8 c) (utf8 cs) bytes) ∙ number-text c (utf8 cs ++ bytes)
    ∙ ap (λ x. c ∷ x) (text_of-utf8_append cs bytes)

pub text_of-utf8 : (t : List ℕ) → text_of (utf8 t) ≡ t
text_of-utf8 t = ap text_of (sym (append-nil (utf8 t))) ∙ text_of-utf8_append t [] ∙ ap (λ x. t ++ x) chars-nil
    ∙ append-nil t

-- the first byte of a character is no continuation byte, and the others are
lead-byte : (c : ℕ) (bytes : List ℕ) → 128 ≤ get_or (encode_utf8 c ++ bytes) 0 0
    → 192 ≤ get_or (encode_utf8 c ++ bytes) 0 0
unfolding encode
lead-byte c bytes h = grind (arith, nat_tests)

inner-byte : (c p : ℕ) (bytes : List ℕ) → 0 < p → p < len_utf8 c
    → (128 ≤ get_or (encode_utf8 c ++ bytes) p 0) × (get_or (encode_utf8 c ++ bytes) p 0 < 192)
unfolding encode
inner-byte c zero bytes h k = absurd (omega arith)
inner-byte c (suc zero) bytes h k = grind (arith, nat_tests)
inner-byte c (suc (suc zero)) bytes h k = grind (arith, nat_tests)
inner-byte c (suc (suc (suc zero))) bytes h k = grind (arith, nat_tests)
inner-byte c (suc (suc (suc (suc p)))) bytes h k = absurd (omega (arith, (len_utf8_bounds c).1, k))

first-byte : (b : List ℕ) → 128 ≤ get_or (utf8 b) 0 0 → 192 ≤ get_or (utf8 b) 0 0
first-byte [] h = absurd (omega (arith, h))
first-byte (c ∷ cs) h = lead-byte c (utf8 cs) h

seam-byte : (a b : List ℕ) → get_or (utf8 a ++ utf8 b) (size a) 0 ≡ get_or (utf8 b) 0 0
seam-byte a b = ap (λ n. get_or (utf8 a ++ utf8 b) n 0) (omega (arith, length-utf8 a))
    ∙ get_or-append-add (utf8 a) (utf8 b) 0 0

seam : (a b : List ℕ) → IsCharBoundary (utf8 a ++ utf8 b) (size a)
seam a b = (
  omega (arith, length-append (utf8 a) (utf8 b), length-utf8 a),
  λ within high. omega (arith, seam-byte a b, first-byte b (omega (arith, seam-byte a b, high))),
)

pub boundary-in_bytes : (t : List ℕ) (p : ℕ) → IsBoundary t p → IsCharBoundary (utf8 t) p
boundary-in_bytes t p h =
    subst (λ (n : ℕ). IsCharBoundary (utf8 t) n) h.2.position
    (subst (λ (x : List ℕ). IsCharBoundary x (size h.0)) (sym (ap utf8 h.2.parts ∙ encodes-append h.0 h.1))
    (seam h.0 h.1))

later-byte : (c : ℕ) (bytes : List ℕ) (q : ℕ) → get_or (encode_utf8 c ++ bytes) (len_utf8 c + q) 0 ≡ get_or bytes q 0
later-byte c bytes q = ap (λ n. get_or (encode_utf8 c ++ bytes) n 0) (omega (arith, length-encode c))
    ∙ get_or-append-add (encode_utf8 c) bytes q 0

boundary-cons : (c : ℕ) (cs : List ℕ) (q : ℕ) → IsBoundary cs q → IsBoundary (c ∷ cs) (len_utf8 c + q)
boundary-cons c cs q h = (
  c ∷ h.0,
  h.1,
  record {
    parts = ap (λ x. c ∷ x) h.2.parts;
    position =
        ap (λ n. len_utf8 c + n) h.2.position;
  },
)

rest-boundary : (c : ℕ) (cs : List ℕ) (q : ℕ) → IsCharBoundary (encode_utf8 c ++ utf8 cs) (len_utf8 c + q)
    → IsCharBoundary (utf8 cs) q
rest-boundary c cs q b =
    let long = length-append (encode_utf8 c) (utf8 cs) in
    let wide = length-encode c in
    let byte = later-byte c (utf8 cs) q in (
      omega (arith, b.0, long, wide),
      λ within high. omega (arith, byte, b.1 (omega (arith, within, long, wide)) (omega (arith, byte, high))),
    )

no-inner : (c : ℕ) (cs : List ℕ) (p : ℕ) → 0 < p → p < len_utf8 c → IsCharBoundary (encode_utf8 c ++ utf8 cs) p → ⊥
no-inner c cs p pos short b =
    let inner = inner-byte c p (utf8 cs) pos short in
    let within : p < length (encode_utf8 c ++ utf8 cs) = omega
    (arith, length-append (encode_utf8 c) (utf8 cs), length-encode c, short) in
    omega (arith, inner.1, b.1 within inner.0)

boundary-of_bytes : (t : List ℕ) (p : ℕ) → IsCharBoundary (utf8 t) p → IsBoundary t p
boundary-of_bytes [] p b = ([], [], record { parts = refl; position = omega (arith, b.0) })
boundary-of_bytes (c ∷ cs) zero b = ([], c ∷ cs, record { parts = refl; position = refl })
boundary-of_bytes (c ∷ cs) (suc n) b = by (λ q k. boundary-of_bytes cs q k) (cases_lt (suc n) (len_utf8 c))
  where
    by : ((q : ℕ) → IsCharBoundary (utf8 cs) q → IsBoundary cs q) → (suc n < len_utf8 c) ⊎ (len_utf8 c ≤ suc n)
        → IsBoundary (c ∷ cs) (suc n)
    by later (inl short) = absurd (no-inner c cs (suc n) (omega arith) short b)
    by later (inr past) =
        let q : ℕ = suc n - len_utf8 c in
        let is : suc n ≡ len_utf8 c + q = omega (arith, past) in
        let rest : IsCharBoundary (utf8 cs) q = rest-boundary c cs q
        (subst (λ (m : ℕ). IsCharBoundary (encode_utf8 c ++ utf8 cs) m) is b) in
        subst (λ (m : ℕ). IsBoundary (c ∷ cs) m) (sym is) (boundary-cons c cs q (later q rest))

-- the same for `grind`: the first part shows it the call to match
pub boundary-from_bytes : (t : List ℕ) (p : ℕ) → IsCharBoundary (utf8 t) p
    → (get_or (utf8 t) p 0 ≡ get_or (utf8 t) p 0) × IsBoundary t p
boundary-from_bytes t p b = (refl, boundary-of_bytes t p b)

pub ruleset encoded_facts = (text_of-utf8_append, text_of-utf8, boundary-in_bytes, boundary-from_bytes)
