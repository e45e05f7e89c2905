-- Packed texts cut at a boundary: the length, and the bytes before a boundary as UTF-8 and as a text.
use Rattle.std.proofs.Common.{◌≡◌, ℕ, ◌≤◌, List, take, ap, sym, ◌∙◌, subst, arith}
use Rattle.std.specs.Str.{IsUtf8}
use Rattle.std.proofs.lemmas.List.{take-take}
use Rattle.compact_text.specs.Text.{size, text_of}
use Rattle.compact_text.specs.Cut.{IsBoundary, text_before}
use Rattle.compact_repr.specs.Packed.{IsPackedFor, packed_len, packed_text}
use Rattle.compact_text.proofs.CutLemmas.{boundary-within, text_of-take, utf8-take}
use Rattle.compact_repr.proofs.PackedTexts.{packed-len, packed-most, packed-utf8, packed-seen}

-- the encoded length is the size of the text
pub len-seen : {t : List ℕ} (bytes : List ℕ) → packed_text bytes ≡ t → IsPackedFor bytes (packed_text bytes)
    → packed_len bytes ≡ size t
len-seen {t} bytes e p = packed-len bytes t (packed-seen bytes e p)

pub len-fits : {t : List ℕ} (bytes : List ℕ) → packed_text bytes ≡ t → IsPackedFor bytes (packed_text bytes)
    → packed_len bytes ≤ 24
len-fits {t} bytes e p = let stands = len-seen bytes e p in let most = packed-most bytes t (packed-seen bytes e p) in
    omega (arith, stands, most)

pub utf8-seen : (bytes : List ℕ) → IsPackedFor bytes (packed_text bytes) → IsUtf8 (take (packed_len bytes) bytes)
utf8-seen bytes p = packed-utf8 bytes (packed_text bytes) p

front-is : {t : List ℕ} (bytes : List ℕ) (n : ℕ) → packed_text bytes ≡ t → IsPackedFor bytes (packed_text bytes)
    → IsBoundary t n
    → take n (take (packed_len bytes) bytes) ≡ take n bytes
front-is {t} bytes n e p h =
    let stands = len-seen bytes e p in
    let within = boundary-within t n h in
    take-take n (packed_len bytes) bytes (omega (arith, stands, within))

pub utf8-cut : {t : List ℕ} (bytes : List ℕ) (n : ℕ) → packed_text bytes ≡ t → IsPackedFor bytes (packed_text bytes)
    → IsBoundary t n → IsUtf8 (take n bytes)
utf8-cut bytes n e p h = subst IsUtf8 (front-is bytes n e p h)
    (utf8-take (take (packed_len bytes) bytes) n e (utf8-seen bytes p) h)

pub text_of-cut : {t : List ℕ} (bytes : List ℕ) (n : ℕ) → packed_text bytes ≡ t
    → IsPackedFor bytes (packed_text bytes) → IsBoundary t n → text_of (take n bytes) ≡ text_before t n
text_of-cut bytes n e p h = ap text_of (sym (front-is bytes n e p h))
    ∙ text_of-take (take (packed_len bytes) bytes) n e (utf8-seen bytes p) h
