-- Texts and values cut at a position.
use Rattle.std.proofs.Common.{◌≡◌, ℕ, ◌+◌, ◌-◌, ◌≤◌, List, [], ◌∷◌, ◌++◌, length, ◌<◌, ◌⊎◌, inl, inr, take, drop}
use Rattle.std.proofs.Common.{take_all, refl, ap, sym, subst, ◌∙◌, arith, append_assoc, append-nil, take_at, drop_at}
use Rattle.std.proofs.lemmas.Grind.{common_steps}
use Rattle.std.proofs.lemmas.Bool.{cases_lt, cond-true, le-leb}
use Rattle.std.proofs.lemmas.Bool.Decides.{nat_tests}
use Rattle.std.proofs.lemmas.Str.{encodes-append}
use Rattle.std.specs.Char.{len_utf8, encode_utf8}
use Rattle.std.specs.List.{insert_slice, remove_range}
use Rattle.compact_repr.specs.Text.{size, utf8}
use Rattle.compact_repr.specs.Cut.{IsCut, IsBoundary, IsCharAt, text_before, text_after, replaced_text}
use Rattle.compact_repr.specs.Value.{PlacedText}
use Rattle.compact_repr.specs.Calls.{truncate}
use Rattle.compact_text.proofs.Texts.{length-utf8, size-append}
use Rattle.compact_text.proofs.CutLemmas.{boundary-from_size, boundary-next, text_after-next, text_before-text_after}
use Rattle.compact_text.proofs.CutLemmas.{text_after-append, size-text_before}

-- the prefix up to a position past the end is the whole
pub text_before-all : (t : List ℕ) (p : ℕ) → size t ≤ p → text_before t p ≡ t
text_before-all [] p h = refl
text_before-all (c ∷ cs) p h =
    cond-true _ _ _ (le-leb (len_utf8 c) p (omega arith)) ∙ ap (λ x. c ∷ x)
    (text_before-all cs (p - len_utf8 c) (omega arith))

pub truncate-text : (v : PlacedText) (p : ℕ) → (truncate v p).text ≡ text_before v.text p
truncate-text v p = grind (arith, common_steps, text_before-all)

-- a boundary of a text is one of a prefix, with the same prefix up to it
text_before-step : (cs : List ℕ) (c p q : ℕ) → p ≤ q → text_before (text_before cs (q - len_utf8 c)) (p - len_utf8 c)
    ≡ text_before cs (p - len_utf8 c)
    → text_before (text_before (c ∷ cs) q) p ≡ text_before (c ∷ cs) p
text_before-step cs c p q h same = grind (arith, nat_tests)

pub text_before-text_before : (t : List ℕ) (p q : ℕ) → p ≤ q → text_before (text_before t q) p ≡ text_before t p
text_before-text_before [] p q h = refl
text_before-text_before (c ∷ cs) p q h = text_before-step cs c p q h
    (text_before-text_before cs (p - len_utf8 c) (q - len_utf8 c) (omega arith))

pub text_before-boundary : (t : List ℕ) (p q : ℕ) → p ≤ q → IsBoundary t p → IsBoundary (text_before t q) p
text_before-boundary t p q h k = boundary-from_size (text_before t q) p
    (ap size (text_before-text_before t p q h) ∙ size-text_before t p k)

-- the seam of two texts is a boundary
pub boundary-seam : (a b : List ℕ) (p : ℕ) → size a ≡ p → IsBoundary (a ++ b) p
boundary-seam a b p e = (a, b, record { parts = refl; position = e })

-- the two parts of a text at a boundary
pub boundary-cut : (t a b : List ℕ) (p : ℕ) → IsBoundary t p → a ≡ text_before t p → b ≡ text_after t p → IsCut t p a b
boundary-cut t a b p h e k = record {
  parts = text_before-text_after t p ∙ rw (e, k) refl;
  position = ap size e
      ∙ size-text_before t p h;
}

-- inserted text is between two boundaries, and the text around it is unchanged
pub replace_range-start : (t s : List ℕ) (start end : ℕ) → IsBoundary t start
    → IsBoundary (replaced_text t start end s) start
replace_range-start t s start end h = (
  text_before t start,
  s ++ text_after t end,
  record {
    parts =
        append_assoc (text_before t start) s (text_after t end);
    position = size-text_before t start h;
  },
)

pub replace_range-end : (t s : List ℕ) (start end p n : ℕ) → IsBoundary t start → size s ≡ n → p ≡ start + n
    → IsBoundary (replaced_text t start end s) p
replace_range-end t s start end p n h e k = (
  text_before t start ++ s,
  text_after t end,
  record {
    parts = refl;
    position = size-append (text_before t start) s
        ∙ omega (arith, size-text_before t start h);
  },
)

pub text_after-replaced_text : (t : List ℕ) (start end : ℕ) → IsBoundary t start
    → text_after (replaced_text t start end []) start ≡ text_after t end
text_after-replaced_text t start end h =
    ap (λ x. text_after (x ++ text_after t end) start) (append-nil (text_before t start))
    ∙ text_after-append (text_before t start) (text_after t end) start (size-text_before t start h)

-- the bytes of the two parts of a text at a boundary
module _ (t : List ℕ) (p : ℕ) (h : IsBoundary t p) where
  parts : utf8 t ≡ utf8 (text_before t p) ++ utf8 (text_after t p)
  parts = ap utf8 (text_before-text_after t p) ∙ encodes-append (text_before t p) (text_after t p)

  long : length (utf8 (text_before t p)) ≡ p
  long = length-utf8 (text_before t p) ∙ size-text_before t p h

  pub before_bytes : utf8 (text_before t p) ≡ take p (utf8 t)
  before_bytes = sym (ap (take p) parts ∙ take_at (utf8 (text_before t p)) (utf8 (text_after t p)) p long)

  pub after_bytes : utf8 (text_after t p) ≡ drop p (utf8 t)
  after_bytes = sym (ap (drop p) parts ∙ drop_at (utf8 (text_before t p)) (utf8 (text_after t p)) p long)

-- the bytes of a prefix, which may be the whole text
pub truncated-bytes : (t u : List ℕ) (p : ℕ) → u ≡ text_before t p → (p < size t → IsBoundary t p)
    → utf8 u ≡ take p (utf8 t)
truncated-bytes t u p is within = ap utf8 is ∙ cases (cases_lt p (size t))
  where
    cases : (p < size t) ⊎ (size t ≤ p) → utf8 (text_before t p) ≡ take p (utf8 t)
    cases (inl inside) = before_bytes t p (within inside)
    cases (inr past) = ap utf8 (text_before-all t p past) ∙ sym
        (take_all p (utf8 t) (omega (arith, length-utf8 t, past)))

-- the bytes of a text of which a part was replaced with s
pub replaced-bytes : (t u s bytes : List ℕ) (p q : ℕ) → u ≡ replaced_text t p q s → IsBoundary t p → IsBoundary t q
    → utf8 s ≡ bytes → utf8 u ≡ take p (utf8 t) ++ bytes ++ drop q (utf8 t)
replaced-bytes t u s bytes p q is h k encoded =
    ap utf8 is
    ∙ encodes-append (text_before t p ++ s) (text_after t q)
    ∙ ap (λ x. x ++ utf8 (text_after t q)) (encodes-append (text_before t p) s)
    ∙ rw (encoded, before_bytes t p h, after_bytes t q k) refl

-- a text in which s was inserted: its bytes, and the boundaries round s
pub inserted-bytes : (t u s bytes : List ℕ) (p : ℕ) → u ≡ replaced_text t p p s → IsBoundary t p → utf8 s ≡ bytes
    → utf8 u ≡ insert_slice (utf8 t) p bytes
inserted-bytes t u s bytes p is h encoded = replaced-bytes t u s bytes p p is h h encoded

pub inserted-boundary : (t u s : List ℕ) (p : ℕ) → u ≡ replaced_text t p p s → IsBoundary t p → IsBoundary u p
inserted-boundary t u s p is h = subst (λ (x : List ℕ). IsBoundary x p) (sym is) (replace_range-start t s p p h)

pub inserted-after : (t u s : List ℕ) (p n : ℕ) → u ≡ replaced_text t p p s → IsBoundary t p → size s ≡ n
    → IsBoundary u (p + n)
inserted-after t u s p n is h long = subst (λ (x : List ℕ). IsBoundary x (p + n)) (sym is)
    (replace_range-end t s p p (p + n) n h long refl)

-- a text in which a character was inserted
pub inserted-character : (t u : List ℕ) (p c : ℕ) → u ≡ replaced_text t p p (c ∷ []) → IsBoundary t p
    → utf8 u ≡ insert_slice (utf8 t) p (encode_utf8 c)
inserted-character t u p c is h = inserted-bytes t u (c ∷ []) (encode_utf8 c) p is h (append-nil (encode_utf8 c))

pub inserted-character_after : (t u : List ℕ) (p c : ℕ) → u ≡ replaced_text t p p (c ∷ []) → IsBoundary t p
    → IsBoundary u (p + len_utf8 c)
inserted-character_after t u p c is h = inserted-after t u (c ∷ []) p (len_utf8 c) is h (omega arith)

-- a text without the character at a boundary
pub removed-character : (t u rest : List ℕ) (p c : ℕ) → u ≡ replaced_text t p (p + len_utf8 c) [] → IsBoundary t p
    → text_after t p ≡ c ∷ rest → text_after t p ≡ c ∷ text_after u p
removed-character t u rest p c is h e =
    e ∙ ap (λ x. c ∷ x) (sym (ap (λ x. text_after x p) is ∙ text_after-replaced_text t p (p + len_utf8 c) h
    ∙ text_after-next t rest p c h e))

pub removed-char_at : (t u : List ℕ) (p c : ℕ) → u ≡ replaced_text t p (p + len_utf8 c) [] → IsBoundary t p
    → IsCharAt t p c → text_after t p ≡ c ∷ text_after u p
removed-char_at t u p c is h a = removed-character t u a.rest p c is h a.text

-- the bytes of a text without the part between two boundaries, and without the character at one
pub cut-bytes : (t u : List ℕ) (p q : ℕ) → u ≡ replaced_text t p q [] → IsBoundary t p → IsBoundary t q
    → utf8 u ≡ remove_range (utf8 t) p q
cut-bytes t u p q is h k = replaced-bytes t u [] [] p q is h k refl
    ∙ ap (λ x. x ++ drop q (utf8 t)) (append-nil (take p (utf8 t)))

pub removed-bytes : (t u : List ℕ) (p c : ℕ) → u ≡ replaced_text t p (p + len_utf8 c) [] → IsBoundary t p
    → IsCharAt t p c → utf8 u ≡ remove_range (utf8 t) p (p + len_utf8 c)
removed-bytes t u p c is h a = cut-bytes t u p (p + len_utf8 c) is h (boundary-next t a.rest p c h a.text)
