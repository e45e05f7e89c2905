-- A packed text in a case: its 24 bytes are converted, and a length among them stays.
use Rattle.std.proofs.Common.{◌≡◌, ℕ, ◌-◌, ◌<◌, ◌≤◌, List, length, take, get_or, map, refl, ap, sym, ◌∙◌, subst, arith, ⊎_elim}
use Rattle.std.specs.Str.{IsUtf8}
use Rattle.std.proofs.lemmas.Bool.{cases_lt}
use Rattle.std.proofs.lemmas.List.{get_or-map, length-map, take-map}
use Rattle.compact_text.specs.Text.{text_of}
use Rattle.compact_text.specs.Case.{in_case, text_in_case}
use Rattle.compact_text.specs.declared.slices.ascii_case.Case.{Case}
use Rattle.compact_text.proofs.AsciiCase.{low-in_case, high-in_case, utf8-in_case, text_of-in_case}
use Rattle.compact_repr.specs.Packed.{IsPackedFor, packed_len, packed_text}
use Rattle.compact_repr.proofs.PackedTexts.{len-full, len-high, packed-utf8, packs-read}
use Rattle.compact_repr.proofs.PackedCuts.{len-fits}

same_len : (case : Case) (bytes : List ℕ) → length bytes ≡ 24
    → packed_len (map (in_case case) bytes) ≡ packed_len bytes
same_len case bytes all =
    let now : List ℕ = map (in_case case) bytes in
    let old : ℕ = get_or bytes 23 0 in
    let last : get_or now 23 0 ≡ in_case case old = get_or-map (in_case case) bytes 23 0 0 (omega (arith, all)) in
    ⊎_elim
    (λ (low : old < 192). len-full now (subst (λ (b : ℕ). b < 192) (sym last) (low-in_case case old low))
    ∙ sym (len-full bytes low))
    (λ (high : 192 ≤ old).
    let e : get_or now 23 0 ≡ old = last ∙ high-in_case case old (omega (arith, high)) in
    len-high now (subst (λ (b : ℕ). 192 ≤ b) (sym e) high) ∙ ap (λ (b : ℕ). b - 192) e ∙ sym (len-high bytes high))
    (cases_lt old 192)

-- the bytes of the text
front : (case : Case) (bytes : List ℕ) → length bytes ≡ 24
    → take (packed_len (map (in_case case) bytes)) (map (in_case case) bytes)
    ≡ map (in_case case) (take (packed_len bytes) bytes)
front case bytes all = ap (λ (n : ℕ). take n (map (in_case case) bytes)) (same_len case bytes all)
    ∙ take-map (in_case case) (packed_len bytes) bytes

pub packed-in_case : (case : Case) (bytes : List ℕ) → length bytes ≡ 24 → IsPackedFor bytes (packed_text bytes)
    → IsPackedFor (map (in_case case) bytes) (packed_text (map (in_case case) bytes))
packed-in_case case bytes all p =
    let most = len-fits bytes refl p in
    packs-read (map (in_case case) bytes) (length-map bytes (in_case case) ∙ all)
    (omega (arith, same_len case bytes all, most))
    (subst IsUtf8 (sym (front case bytes all)) (utf8-in_case case _ (packed-utf8 bytes _ p)))

pub text-in_case : {t : List ℕ} (case : Case) (bytes : List ℕ) → length bytes ≡ 24 → packed_text bytes ≡ t
    → IsPackedFor bytes (packed_text bytes)
    → packed_text (map (in_case case) bytes) ≡ text_in_case case t
text-in_case case bytes all e p = ap text_of (front case bytes all)
    ∙ text_of-in_case case (take (packed_len bytes) bytes) e (packed-utf8 bytes _ p)
