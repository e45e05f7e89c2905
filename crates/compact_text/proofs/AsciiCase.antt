-- Texts with changed ASCII characters: their bytes and boundaries.
use Rattle.std.proofs.Common.{◌≡◌, ℕ, ◌+◌, ◌-◌, ◌/◌, ◌<◌, ◌≤◌, List, [], ◌∷◌, ◌++◌, length, Bool, true, false, cond}
use Rattle.std.proofs.Common.{refl, ap, sym, ◌∙◌, map, arith, ⊎_elim}
use Rattle.std.proofs.lemmas.Bool.{cases_lt, le-ltb, and_parts, and_from}
use Rattle.std.proofs.lemmas.List.{map-append, length-map}
use Rattle.std.proofs.lemmas.Str.{chars_from_encodes, encode_ascii, length-encode}
use Rattle.std.proofs.lemmas.Str.Ascii.{lowercase_ascii, lowercase_is, uppercase_ascii, uppercase_is}
use Rattle.std.specs.Char.{len_utf8, to_ascii_lowercase, to_ascii_uppercase}
use Rattle.std.specs.Str.{IsUtf8}
use lib.Dec.{ltb}
use lib.Utf8.{scalar, scalars, encode, encodes, next, low_scalar}
use Rattle.compact_text.specs.Text.{size, text_of, ascii_lowercase, ascii_uppercase}
use Rattle.compact_text.specs.Cut.{IsBoundary, text_before}
use Rattle.compact_text.specs.Case.{in_case, text_in_case}
use Rattle.compact_text.specs.declared.slices.ascii_case.Case.{Case}
use Rattle.compact_text.specs.declared.slices.ascii_case.Case.TheVariants.{Lower, Upper}
use Rattle.compact_text.proofs.CutLemmas.{size-text_before, boundary-from_size}

-- f maps ASCII to ASCII, and changes nothing else
module _ (f : ℕ → ℕ) (low : (b : ℕ) → b < 128 → f b < 128) (high : (b : ℕ) → 128 ≤ b → f b ≡ b) where
  same_of_three : (x y : Bool) (p q r : List ℕ) → map f p ≡ p → map f q ≡ q → map f r ≡ r
      → map f (cond x p (cond y q r)) ≡ cond x p (cond y q r)
  same_of_three true y p q r h k l = h
  same_of_three false true p q r h k l = k
  same_of_three false false p q r h k l = l

  encode-wide : (c : ℕ) → 128 ≤ c → map f (encode c) ≡ encode c
  unfolding encode
  encode-wide c le =
      let two : map f ((192 + c / 64) ∷ next c ∷ []) ≡ (192 + c / 64) ∷ next c ∷ [] =
      (λ i. high (192 + c / 64) (omega arith) i ∷ high (next c) (omega arith) i ∷ []) in
      let three : map f ((224 + c / 4096) ∷ next (c / 64) ∷ next c ∷ [])
      ≡ (224 + c / 4096) ∷ next (c / 64) ∷ next c ∷ [] =
      (λ i. high (224 + c / 4096) (omega arith) i ∷ high (next (c / 64)) (omega arith) i ∷ high (next c) (omega arith)
      i ∷ []) in
      let four : map f ((240 + c / 262144) ∷ next (c / 4096) ∷ next (c / 64) ∷ next c ∷ [])
      ≡ (240 + c / 262144) ∷ next (c / 4096) ∷ next (c / 64) ∷ next c ∷ [] =
      (λ i. high (240 + c / 262144) (omega arith) i ∷ high (next (c / 4096)) (omega arith) i ∷ high (next (c / 64))
      (omega arith) i ∷ high (next c) (omega arith) i ∷ []) in
      rw (le-ltb c 128 le) (same_of_three (ltb c 2048) (ltb c 65536) _ _ _ two three four)

  encode-changed : (c : ℕ) → map f (encode c) ≡ encode (f c)
  encode-changed c =
      ⊎_elim
      (λ h. ap (map f) (encode_ascii c h) ∙ sym (encode_ascii (f c) (low c h)))
      (λ h. encode-wide c h ∙ ap encode (sym (high c h)))
      (cases_lt c 128)

  scalar-changed : (c : ℕ) → scalar c ≡ true → scalar (f c) ≡ true
  scalar-changed c e = ⊎_elim (λ h. let k = low c h in low_scalar (f c) (omega arith)) (λ h. ap scalar (high c h) ∙ e)
      (cases_lt c 128)

  scalars-changed : (t : List ℕ) → scalars t ≡ true → scalars (map f t) ≡ true
  scalars-changed [] e = refl
  scalars-changed (c ∷ cs) e =
      let are = and_parts (scalar c) (scalars cs) e in
      and_from (scalar (f c)) (scalars (map f cs)) (scalar-changed c are.0) (scalars-changed cs are.1)

  encodes-changed : (t : List ℕ) → encodes (map f t) ≡ map f (encodes t)
  encodes-changed [] = refl
  encodes-changed (c ∷ cs) = (λ i. sym (encode-changed c) i ++ encodes-changed cs i)
      ∙ sym (map-append f (encode c) (encodes cs))

  abbrev utf8-changed : (bytes : List ℕ) → IsUtf8 bytes → IsUtf8 (map f bytes)
  utf8-changed bytes u = (map f u.0, (scalars-changed u.0 u.1.0, encodes-changed u.0 ∙ ap (map f) u.1.1))

  text_of-changed : {t : List ℕ} (bytes : List ℕ) → text_of bytes ≡ t → IsUtf8 bytes → text_of (map f bytes) ≡ map f t
  text_of-changed bytes e u =
      let v = utf8-changed bytes u in
      sym (chars_from_encodes v.0 (map f bytes) v v.1.1) ∙ ap (map f) (chars_from_encodes u.0 bytes u u.1.1 ∙ e)

  width-changed : (c : ℕ) → len_utf8 (f c) ≡ len_utf8 c
  width-changed c = sym (length-encode (f c)) ∙ ap length (sym (encode-changed c)) ∙ length-map (encode c) f
      ∙ length-encode c

  size-changed : (t : List ℕ) → size (map f t) ≡ size t
  size-changed [] = refl
  size-changed (c ∷ cs) = omega (arith, width-changed c, size-changed cs)

  cond-map : (b : Bool) (c : ℕ) (cs : List ℕ) → map f (cond b (c ∷ cs) []) ≡ cond b (f c ∷ map f cs) []
  cond-map true c cs = refl
  cond-map false c cs = refl

  text_before-map : (t : List ℕ) (p : ℕ) → text_before (map f t) p ≡ map f (text_before t p)
  text_before-map [] p = refl
  text_before-map (c ∷ cs) p =
      rw (width-changed c, text_before-map cs (p - len_utf8 c)) (sym (cond-map _ c (text_before cs (p - len_utf8 c))))

  boundary-changed : (t : List ℕ) (p : ℕ) → IsBoundary t p → IsBoundary (map f t) p
  boundary-changed t p h =
      boundary-from_size (map f t) p (ap size (text_before-map t p) ∙ size-changed (text_before t p)
      ∙ size-text_before t p h)

lowercase_high : (b : ℕ) → 128 ≤ b → to_ascii_lowercase b ≡ b
lowercase_high b h = (lowercase_is b).2 (omega arith)

uppercase_high : (b : ℕ) → 128 ≤ b → to_ascii_uppercase b ≡ b
uppercase_high b h = (uppercase_is b).2 (omega arith)

ascii : (case : Case) (b : ℕ) → b < 128 → in_case case b < 128
ascii Lower = lowercase_ascii
ascii Upper = uppercase_ascii

pub high-in_case : (case : Case) (b : ℕ) → 128 ≤ b → in_case case b ≡ b
high-in_case Lower = lowercase_high
high-in_case Upper = uppercase_high

-- a byte below 192, as the last of a text is, remains so
pub low-in_case : (case : Case) (b : ℕ) → b < 192 → in_case case b < 192
low-in_case case b low = ⊎_elim (λ h. let k = ascii case b h in omega (arith, k)) (λ h. omega (arith, low, high-in_case case b h))
    (cases_lt b 128)

pub utf8-in_case : (case : Case) (bytes : List ℕ) → IsUtf8 bytes → IsUtf8 (map (in_case case) bytes)
utf8-in_case case bytes u = utf8-changed (in_case case) (ascii case) (high-in_case case) bytes u

pub text_of-in_case : {t : List ℕ} (case : Case) (bytes : List ℕ) → text_of bytes ≡ t → IsUtf8 bytes
    → text_of (map (in_case case) bytes) ≡ text_in_case case t
text_of-in_case case bytes e u = text_of-changed (in_case case) (ascii case) (high-in_case case) bytes e u

pub size-lowercase : (t : List ℕ) → size (ascii_lowercase t) ≡ size t
size-lowercase t = size-changed to_ascii_lowercase lowercase_ascii lowercase_high t

pub size-uppercase : (t : List ℕ) → size (ascii_uppercase t) ≡ size t
size-uppercase t = size-changed to_ascii_uppercase uppercase_ascii uppercase_high t

pub boundary-lowercase : (t : List ℕ) (p : ℕ) → IsBoundary t p → IsBoundary (ascii_lowercase t) p
boundary-lowercase t p h = boundary-changed to_ascii_lowercase lowercase_ascii lowercase_high t p h

pub boundary-uppercase : (t : List ℕ) (p : ℕ) → IsBoundary t p → IsBoundary (ascii_uppercase t) p
boundary-uppercase t p h = boundary-changed to_ascii_uppercase uppercase_ascii uppercase_high t p h

-- the bytes are changed likewise
pub lowercase-bytes : (t : List ℕ) → encodes (ascii_lowercase t) ≡ map to_ascii_lowercase (encodes t)
lowercase-bytes = encodes-changed to_ascii_lowercase lowercase_ascii lowercase_high

pub uppercase-bytes : (t : List ℕ) → encodes (ascii_uppercase t) ≡ map to_ascii_uppercase (encodes t)
uppercase-bytes = encodes-changed to_ascii_uppercase uppercase_ascii uppercase_high
