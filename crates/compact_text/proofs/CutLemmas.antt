-- Boundaries of a text, and those of its bytes.
use Rattle.std.proofs.Common.{◌≡◌, ℕ, ◌+◌, ◌-◌, ◌<◌, ◌≤◌, List, [], ◌∷◌, ◌++◌, take, drop, refl, ap, sym, ◌∙◌, subst}
use Rattle.std.proofs.Common.{arith, true, ⊎_elim, append_assoc, Bool, false, IsTrue, ◌↔◌, get_or, length, length-append, zero, suc}
use Rattle.std.proofs.lemmas.List.{append-nil, length-take-le, take-append-drop}
use Rattle.std.proofs.lemmas.Bool.{eq-eqb, ne_eqb, true≢false, cases_Bool, cond-true, cond-false, le-leb, lt-leb}
use Rattle.std.proofs.lemmas.Bool.{and_parts}
use Rattle.std.proofs.lemmas.Str.{IsUtf8-append, IsUtf8-nil, IsUtf8-take, IsUtf8-drop, chars-append, chars-nil}
use Rattle.std.proofs.lemmas.Str.{scalars-chars, encodes-chars, encodes-append, encodes_same, chars_past_char}
use Rattle.std.proofs.lemmas.Str.{len_utf8_bounds, IsCharBoundary-at_seam, IsCharBoundary-before_ascii, chars-IsAscii}
use Rattle.std.proofs.Math.Seq.{get_or-append_seam, take-append_seam}
use Rattle.std.specs.Char.{len_utf8}
use Rattle.std.specs.List.{replace_range}
use Rattle.std.specs.Str.{IsUtf8, IsCharBoundary, IsAscii}
use lib.Dec.{leb}
use lib.Utf8.{encode, encodes, scalar, scalars}
use Rattle.compact_text.specs.Text.{size, text_of}
use Rattle.compact_text.specs.Cut.{IsCut, IsBoundary, is_boundary, text_before, text_after, replaced_text}
use Rattle.compact_text.specs.Cut.{CutIsBeforeAndAfter}
use Rattle.compact_text.proofs.Texts.{length-utf8, size-text_of, size-append}

pub text_before-text_after : (t : List ℕ) (p : ℕ) → t ≡ text_before t p ++ text_after t p
text_before-text_after [] p = refl
text_before-text_after (c ∷ cs) p =
    ⊎_elim
    (λ e. rw e (ap (λ x. c ∷ x) (text_before-text_after cs (p - len_utf8 c))))
    (λ e. rw e refl)
    (cases_Bool (leb (len_utf8 c) p))

past-start : (c p : ℕ) → 0 ≡ p → p < len_utf8 c
past-start c p e = let w = len_utf8_bounds c in omega (arith, w.0, e)

pub text_before-append : (a b : List ℕ) (p : ℕ) → size a ≡ p → text_before (a ++ b) p ≡ a
text_before-append [] [] p e = refl
text_before-append [] (c ∷ cs) p e = cond-false _ _ _ (lt-leb (len_utf8 c) p (past-start c p e))
text_before-append (c ∷ cs) b p e =
    cond-true _ _ _ (le-leb (len_utf8 c) p (omega (arith, e)))
    ∙ ap (λ x. c ∷ x) (text_before-append cs b (p - len_utf8 c) (omega (arith, e)))

pub text_after-append : (a b : List ℕ) (p : ℕ) → size a ≡ p → text_after (a ++ b) p ≡ b
text_after-append [] [] p e = refl
text_after-append [] (c ∷ cs) p e = cond-false _ _ _ (lt-leb (len_utf8 c) p (past-start c p e))
text_after-append (c ∷ cs) b p e =
    cond-true _ _ _ (le-leb (len_utf8 c) p (omega (arith, e)))
    ∙ text_after-append cs b (p - len_utf8 c) (omega (arith, e))

pub size-text_before : (t : List ℕ) (p : ℕ) → IsBoundary t p → size (text_before t p) ≡ p
size-text_before t p h = ap (λ x. size (text_before x p)) h.2.parts
    ∙ ap size (text_before-append h.0 h.1 p h.2.position) ∙ h.2.position

pub boundary-from_size : (t : List ℕ) (p : ℕ) → size (text_before t p) ≡ p → IsBoundary t p
boundary-from_size t p e = (
  text_before t p,
  text_after t p,
  record { parts = text_before-text_after t p; position = e },
)

pub cut_is_before_and_after : CutIsBeforeAndAfter
cut_is_before_and_after t p a b = (
  (λ h.
      let front : text_before t p ≡ a = ap (λ x. text_before x p) h.parts ∙ text_before-append a b p h.position in
      let back : text_after t p ≡ b = ap (λ x. text_after x p) h.parts ∙ text_after-append a b p h.position in
      (sym front, sym back, ap size front ∙ h.position)),
  (λ h.
      let parts : t ≡ a ++ b = rw (h.0, h.1) (text_before-text_after t p) in
      record { parts = parts; position = ap size h.0 ∙ h.2 }),
)

pub boundary-within : (t : List ℕ) (p : ℕ) → IsBoundary t p → p ≤ size t
boundary-within t p h =
    let whole : size t ≡ size h.0 + size h.1 = ap size h.2.parts ∙ size-append h.0 h.1 in
    let front : size h.0 ≡ p = h.2.position in
    omega (arith, whole, front)

pub size-text_after : (t : List ℕ) (p : ℕ) → IsBoundary t p → size (text_after t p) + p ≡ size t
size-text_after t p h =
    let whole : size t ≡ size (text_before t p) + size (text_after t p) = ap size (text_before-text_after t p)
    ∙ size-append (text_before t p) (text_after t p) in
    let front = size-text_before t p h in
    omega (arith, whole, front)

pub size-replaced : (t s : List ℕ) (start end : ℕ) → IsBoundary t start → IsBoundary t end → start ≤ end
    → size (replaced_text t start end s) + (end - start) ≡ size t + size s
size-replaced t s start end h k order =
    let whole : size (replaced_text t start end s) ≡ size (text_before t start) + size s + size (text_after t end) =
    size-append (text_before t start ++ s) (text_after t end)
    ∙ ap (λ (n : ℕ). n + size (text_after t end)) (size-append (text_before t start) s) in
    let front = size-text_before t start h in
    let back = size-text_after t end k in
    omega (arith, whole, front, back)

-- the text and its bytes have the same boundaries

text_of-parts : (bytes : List ℕ) (p : ℕ) → IsUtf8 bytes → IsCharBoundary bytes p
    → IsCut (text_of bytes) p (text_of (take p bytes)) (text_of (drop p bytes))
text_of-parts bytes p u h =
    let front : IsUtf8 (take p bytes) = IsUtf8-take bytes p u h in
    record {
      parts = ap text_of (sym (take-append-drop p bytes)) ∙ chars-append (take p bytes) (drop p bytes) front;
      position = size-text_of (take p bytes) front ∙ length-take-le p bytes h.0;
    }

pub boundary-text : {t : List ℕ} (bytes : List ℕ) (p : ℕ) → text_of bytes ≡ t → IsUtf8 bytes → IsCharBoundary bytes p
    → IsBoundary t p
boundary-text bytes p e u h = subst (λ (t : List ℕ). IsBoundary t p) e
    (text_of (take p bytes), text_of (drop p bytes), text_of-parts bytes p u h)

scalars-back : (a b : List ℕ) → scalars (a ++ b) ≡ true → scalars b ≡ true
scalars-back [] b e = e
scalars-back (c ∷ cs) b e = scalars-back cs b ((and_parts (scalar c) (scalars (cs ++ b)) e).1)

boundary-encoded : (bytes : List ℕ) (p : ℕ) → IsUtf8 bytes → IsBoundary (text_of bytes) p → IsCharBoundary bytes p
boundary-encoded bytes p u h =
    let back : IsUtf8 (encodes h.1) = (
      h.1,
      (
        scalars-back h.0 h.1
            (ap scalars (sym h.2.parts) ∙ scalars-chars bytes u),
        refl,
      ),
    ) in
    let parts : bytes ≡ encodes h.0 ++ encodes h.1 = sym (encodes-chars bytes u) ∙ ap encodes h.2.parts
    ∙ encodes-append h.0 h.1 in
    subst (λ (n : ℕ). IsCharBoundary bytes n) (length-utf8 h.0 ∙ h.2.position)
    (IsCharBoundary-at_seam bytes (encodes h.0) (encodes h.1) parts back)

pub boundary-bytes : {t : List ℕ} (bytes : List ℕ) (p : ℕ) → text_of bytes ≡ t → IsUtf8 bytes → IsBoundary t p
    → IsCharBoundary bytes p
boundary-bytes bytes p e u h = boundary-encoded bytes p u (subst (λ (t : List ℕ). IsBoundary t p) (sym e) h)

-- the texts of the parts of the bytes

pub text_of-take : {t : List ℕ} (bytes : List ℕ) (p : ℕ) → text_of bytes ≡ t → IsUtf8 bytes → IsBoundary t p
    → text_of (take p bytes) ≡ text_before t p
text_of-take bytes p e u h =
    let cut = text_of-parts bytes p u (boundary-bytes bytes p e u h) in
    ((cut_is_before_and_after _ _ _ _).0 cut).0 ∙ ap (λ t. text_before t p) e

pub text_of-drop : {t : List ℕ} (bytes : List ℕ) (p : ℕ) → text_of bytes ≡ t → IsUtf8 bytes → IsBoundary t p
    → text_of (drop p bytes) ≡ text_after t p
text_of-drop bytes p e u h =
    let cut = text_of-parts bytes p u (boundary-bytes bytes p e u h) in
    ((cut_is_before_and_after _ _ _ _).0 cut).1 ∙ ap (λ t. text_after t p) e

pub utf8-take : {t : List ℕ} (bytes : List ℕ) (p : ℕ) → text_of bytes ≡ t → IsUtf8 bytes → IsBoundary t p
    → IsUtf8 (take p bytes)
utf8-take bytes p e u h = IsUtf8-take bytes p u (boundary-bytes bytes p e u h)

pub utf8-drop : {t : List ℕ} (bytes : List ℕ) (p : ℕ) → text_of bytes ≡ t → IsUtf8 bytes → IsBoundary t p
    → IsUtf8 (drop p bytes)
utf8-drop bytes p e u h = IsUtf8-drop bytes p u (boundary-bytes bytes p e u h)

pub utf8-replaced : {t : List ℕ} (bytes s : List ℕ) (start end : ℕ) → text_of bytes ≡ t → IsUtf8 bytes → IsUtf8 s
    → IsBoundary t start → IsBoundary t end → IsUtf8 (replace_range bytes start end s)
utf8-replaced bytes s start end e u v h k =
    IsUtf8-append _ _ (IsUtf8-append _ _ (utf8-take bytes start e u h) v) (utf8-drop bytes end e u k)

pub text_of-replaced : {t : List ℕ} (bytes s : List ℕ) (start end : ℕ) → text_of bytes ≡ t → IsUtf8 bytes → IsUtf8 s
    → IsBoundary t start → IsBoundary t end → text_of (replace_range bytes start end s)
    ≡ replaced_text t start end (text_of s)
text_of-replaced bytes s start end e u v h k =
    let front = utf8-take bytes start e u h in
    chars-append (take start bytes ++ s) (drop end bytes) (IsUtf8-append _ _ front v)
    ∙ ap (λ x. x ++ text_of (drop end bytes)) (chars-append (take start bytes) s front)
    ∙ rw (text_of-take bytes start e u h, text_of-drop bytes end e u k) refl

-- the last bytes encode the last character
pub text_of-last : (bytes front : List ℕ) (c : ℕ) → IsUtf8 bytes → IsUtf8 front → bytes ≡ front ++ encode c
    → text_of bytes ≡ text_of front ++ c ∷ []
text_of-last bytes front c u v e =
    let spelled : encodes (text_of front ++ c ∷ []) ≡ front ++ encode c =
    encodes-append (text_of front) (c ∷ []) ∙ ap (λ x. x ++ encodes (c ∷ [])) (encodes-chars front v)
    ∙ ap (λ x. front ++ x) (append-nil (encode c)) in
    encodes_same _ _ (encodes-chars bytes u ∙ e ∙ sym spelled)

one_ascii : (c : ℕ) → c < 128 → IsAscii (c ∷ [])
one_ascii c low zero = low
one_ascii c low (suc i) = omega arith

-- the last byte is an ASCII character
pub text_of-last_ascii : (bytes front : List ℕ) (c : ℕ) → IsUtf8 bytes → bytes ≡ front ++ c ∷ [] → c < 128
    → IsUtf8 front × (text_of bytes ≡ text_of front ++ c ∷ [])
text_of-last_ascii bytes front c u e low =
    let whole = subst IsUtf8 e u in
    let last : get_or (front ++ c ∷ []) (length front) 0 ≡ c = get_or-append_seam front c [] 0 in
    let cut = IsCharBoundary-before_ascii (front ++ c ∷ []) (length front)
    (omega (arith, length-append front (c ∷ []))) (omega (arith, last, low)) in
    let kept : IsUtf8 front = subst IsUtf8 (take-append_seam front (c ∷ []))
    (IsUtf8-take (front ++ c ∷ []) (length front) whole cut) in (
      kept,
      ap text_of e ∙ chars-append front (c ∷ []) kept
          ∙ ap (λ t. text_of front ++ t) (chars-IsAscii (c ∷ []) (one_ascii c low)),
    )

-- the first bytes after a boundary encode the next character
pub text_of-next : (bytes rest : List ℕ) (p c : ℕ) → IsUtf8 bytes → IsBoundary (text_of bytes) p
    → drop p bytes ≡ encode c ++ rest → text_after (text_of bytes) p ≡ c ∷ text_of rest
text_of-next bytes rest p c u h e =
    sym (text_of-drop bytes p refl u h) ∙ chars_past_char (drop p bytes) rest c
    (IsUtf8-drop bytes p u (boundary-bytes bytes p refl u h)) e

-- a part is removed
pub utf8-removed : {t : List ℕ} (bytes : List ℕ) (start end : ℕ) → text_of bytes ≡ t → IsUtf8 bytes
    → IsBoundary t start → IsBoundary t end → IsUtf8 (replace_range bytes start end [])
utf8-removed bytes start end e u h k = utf8-replaced bytes [] start end e u IsUtf8-nil h k

pub text_of-removed : {t : List ℕ} (bytes : List ℕ) (start end : ℕ) → text_of bytes ≡ t → IsUtf8 bytes
    → IsBoundary t start → IsBoundary t end
    → text_of (replace_range bytes start end []) ≡ replaced_text t start end []
text_of-removed {t} bytes start end e u h k = text_of-replaced bytes [] start end e u IsUtf8-nil h k
    ∙ ap (λ (s : List ℕ). replaced_text t start end s) chars-nil

-- the end of the character at a boundary is a boundary
pub boundary-next : (t rest : List ℕ) (p c : ℕ) → IsBoundary t p → text_after t p ≡ c ∷ rest
    → IsBoundary t (p + len_utf8 c)
boundary-next t rest p c h e =
    let parts : t ≡ (text_before t p ++ c ∷ []) ++ rest = text_before-text_after t p
    ∙ ap (λ x. text_before t p ++ x) e ∙ sym (append_assoc (text_before t p) (c ∷ []) rest) in
    let front = size-text_before t p h in
    (text_before t p ++ c ∷ [], rest, record { parts = parts; position = size-append (text_before t p) (c ∷ []) ∙ omega (arith, front) })

pub text_after-next : (t rest : List ℕ) (p c : ℕ) → IsBoundary t p → text_after t p ≡ c ∷ rest
    → text_after t (p + len_utf8 c) ≡ rest
text_after-next t rest p c h e =
    let front = size-text_before t p h in
    let parts : t ≡ (text_before t p ++ c ∷ []) ++ rest = text_before-text_after t p
    ∙ ap (λ x. text_before t p ++ x) e ∙ sym (append_assoc (text_before t p) (c ∷ []) rest) in
    let position : size (text_before t p ++ c ∷ []) ≡ p + len_utf8 c = size-append (text_before t p) (c ∷ [])
    ∙ omega (arith, front) in
    ap (λ x. text_after x (p + len_utf8 c)) parts ∙ text_after-append (text_before t p ++ c ∷ []) rest
    (p + len_utf8 c) position

-- a test of a boundary is `is_boundary`
pub is_boundary-test : (b : Bool) (t : List ℕ) (p : ℕ) → (IsTrue b ↔ IsBoundary t p) → b ≡ is_boundary t p
is_boundary-test true t p h = sym (eq-eqb _ _ (size-text_before t p (h.0 refl)))
is_boundary-test false t p h = sym (ne_eqb _ _ (λ e. true≢false (sym (h.1 (boundary-from_size t p e)))))
