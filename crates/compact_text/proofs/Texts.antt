-- Texts and their bytes.
use Rattle.std.proofs.Common.{◌≡◌, ℕ, ◌+◌, ◌≤◌, List, [], ◌∷◌, ◌++◌, length, take, refl, ap, sym, ◌∙◌, arith}
use Rattle.std.proofs.Common.{length-append, zero-add}
use Rattle.std.proofs.lemmas.List.{length-take-le, nil_from_length}
use Rattle.std.proofs.lemmas.Str.{length-encode, encodes-chars, len_utf8_bounds, chars-nil}
use Rattle.std.specs.Str.{IsUtf8}
use lib.Utf8.{encode, encodes}
use Rattle.compact_text.specs.Text.{size, utf8, text_of}

pub length-utf8 : (t : List ℕ) → length (utf8 t) ≡ size t
length-utf8 [] = refl
length-utf8 (c ∷ cs) = omega (arith, length-append (encode c) (encodes cs), length-encode c, length-utf8 cs)

pub utf8-text_of : (bytes : List ℕ) → IsUtf8 bytes → utf8 (text_of bytes) ≡ bytes
utf8-text_of bytes u = encodes-chars bytes u

pub size-text_of : (bytes : List ℕ) → IsUtf8 bytes → size (text_of bytes) ≡ length bytes
size-text_of bytes u = sym (length-utf8 (text_of bytes)) ∙ ap length (encodes-chars bytes u)

pub size-append : (a b : List ℕ) → size (a ++ b) ≡ size a + size b
size-append [] b = sym (zero-add (size b))
size-append (c ∷ cs) b = omega (arith, size-append cs b)

pub size-front : {t : List ℕ} (bytes : List ℕ) (n : ℕ) → text_of (take n bytes) ≡ t → IsUtf8 (take n bytes)
    → n ≤ length bytes → size t ≡ n
size-front bytes n e u h = ap size (sym e) ∙ size-text_of (take n bytes) u ∙ length-take-le n bytes h

pub empty_text : (t : List ℕ) → size t ≡ 0 → t ≡ []
empty_text [] e = refl
empty_text (c ∷ cs) e = absurd (let w = len_utf8_bounds c in omega (arith, w.0, e))

pub text_of-empty : (bytes : List ℕ) → length bytes ≡ 0 → text_of bytes ≡ []
text_of-empty bytes e = ap text_of (nil_from_length bytes e) ∙ chars-nil
