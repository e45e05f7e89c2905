-- 24 bytes filled from the front, with the length in the last.
use Rattle.std.proofs.Common.{◌≡◌, ℕ, ◌≤◌, List, length, take, get_or, ap, sym, ◌∙◌, subst, arith}
use Rattle.std.specs.Str.{IsUtf8}
use Rattle.std.proofs.lemmas.List.{length-take-le}
use Rattle.compact_repr.specs.Text.{size, utf8, text_of}
use Rattle.compact_repr.specs.Packed.{IsPackedFor, packed_len, packed_text}
use Rattle.compact_text.proofs.Texts.{utf8-text_of, size-text_of}
use Rattle.compact_repr.proofs.PackedTexts.{len-high, packed-len, packed-last, packed-utf8, packed-text, packs-full}
use Rattle.compact_repr.proofs.PackedTexts.{packs-read}

-- no text of 24 bytes ends in a byte that is a length
pub no_text-high : (bytes : List ℕ) (n : ℕ) → length bytes ≡ 24 → n ≡ 24 → 192 ≤ get_or bytes 23 0
    → IsUtf8 (take n bytes) → ⊥
no_text-high bytes n all full high u =
    let stands = packs-full bytes n all full u in
    let len = packed-len bytes _ stands in
    let last = packed-last bytes _ stands in
    let whole : size (text_of (take n bytes)) ≡ n = size-text_of (take n bytes) u
    ∙ length-take-le n bytes (omega arith) in
    let told = len-high bytes high in
    omega (arith, len, last, whole, told, full)

-- the packed text is that of the front
pub text-front : (bytes t front : List ℕ) (n : ℕ) → IsPackedFor bytes t → packed_len bytes ≡ n → take n bytes ≡ front
    → utf8 t ≡ front
text-front bytes t front n p len same =
    ap utf8 (sym (packed-text bytes t p))
    ∙ utf8-text_of (take (packed_len bytes) bytes) (packed-utf8 bytes t p)
    ∙ ap (λ (k : ℕ). take k bytes) len
    ∙ same

-- and if the front is valid, there is one
pub no_text-front : (bytes front : List ℕ) (n : ℕ) → length bytes ≡ 24 → n ≤ 24 → packed_len bytes ≡ n
    → take n bytes ≡ front
    → ((t : List ℕ) → IsPackedFor bytes t → ⊥) → IsUtf8 front → ⊥
no_text-front bytes front n all most len same none u =
    none (packed_text bytes) (packs-read bytes all (omega (arith, len, most))
    (subst (λ (k : ℕ). IsUtf8 (take k bytes)) (sym len) (subst IsUtf8 (sym same) u)))
