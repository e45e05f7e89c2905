-- Edits at the end of a packed text: an ASCII character more or less, or a text more. The last byte is written first.
use Rattle.std.proofs.Common.{◌≡◌, ◌∙◌, ℕ, ◌+◌, ◌-◌, ◌<◌, ◌≤◌, List, [], ◌∷◌, ◌++◌, length, take, get_or, ap, sym, subst}
use Rattle.std.proofs.Common.{arith, ⊎_elim, drop, length-append}
use Rattle.std.specs.Str.{IsUtf8}
use Rattle.std.proofs.lemmas.Bool.{cases_lt}
use Rattle.std.proofs.lemmas.List.{get_or-set_same, get_or-set_other, length-set, take-set-le, take_more, take_more_set}
use Rattle.std.proofs.lemmas.List.{get_or-append_right, get_or-drop, length-take-le}
use Rattle.std.proofs.lemmas.Str.{IsUtf8-append, chars-append}
use lib.ListN.{set}
use lib.Seq.{paste}
use Rattle.compact_repr.specs.Words.{text_of}
use Rattle.compact_repr.specs.Packed.{IsPackedFor, packed_len, packed_text}
use Rattle.compact_text.proofs.CutLemmas.{text_of-last_ascii}
use Rattle.compact_text.proofs.RetainLemmas.{utf8-pushed_ascii, text_of-pushed_ascii}
use Rattle.compact_repr.proofs.PackedTexts.{packs-short, packs-full, packs-marked, len-full, len-high, packed-utf8, packed-text, packed-again}

-- the last byte is raised, and then the byte written after the text of n bytes
packs-pushed : (bytes : List ℕ) (n byte : ℕ) → length bytes ≡ 24 → n < 24 → byte < 128 → IsUtf8 (take n bytes)
    → IsPackedFor (set (set bytes 23 (192 + n + 1)) n byte) (text_of (take n bytes) ++ byte ∷ [])
packs-pushed bytes n byte all short low u =
    let raised : List ℕ = set bytes 23 (192 + n + 1) in
    let now : List ℕ = set raised n byte in
    let whole : length raised ≡ 24 = length-set bytes 23 (192 + n + 1) ∙ all in
    let same : length now ≡ 24 = length-set raised n byte ∙ whole in
    let front : take (n + 1) now ≡ take n bytes ++ byte ∷ [] =
    take_more_set raised n byte (omega arith)
    ∙ ap (λ (l : List ℕ). l ++ byte ∷ []) (take-set-le n bytes 23 (192 + n + 1) (omega arith)) in
    let v : IsUtf8 (take (n + 1) now) = subst IsUtf8 (sym front) (utf8-pushed_ascii (take n bytes) byte low u) in
    subst (IsPackedFor now) (ap text_of front ∙ text_of-pushed_ascii (take n bytes) byte low u)
    (⊎_elim
    (λ (below : n + 1 < 24).
    packs-short now (n + 1) same below v (get_or-set_other raised n 23 byte 0 (omega arith)
    ∙ get_or-set_same bytes 23 (192 + n + 1) 0 (omega arith) ∙ omega arith))
    (λ (full : 24 ≤ n + 1). packs-full now (n + 1) same (omega arith) v)
    (cases_lt (n + 1) 24))

-- the last byte is written, and then a text after the text of n bytes, whose 24th byte overwrites it
packs-appended : (bytes source now : List ℕ) (n : ℕ) → length bytes ≡ 24 → length now ≡ 24 → n < 24
    → n + length source ≤ 24 → IsUtf8 (take n bytes) → IsUtf8 source
    → now ≡ paste (set bytes 23 (192 + (n + length source))) n source (length source)
    → take (n + length source) now ≡ take n (set bytes 23 (192 + (n + length source))) ++ source
    → IsPackedFor now (text_of (take n bytes) ++ text_of source)
packs-appended bytes source now n all whole short fits u v pasted appended =
    let k : ℕ = length source in
    let marked : List ℕ = set bytes 23 (192 + (n + k)) in
    let same : length marked ≡ 24 = length-set bytes 23 (192 + (n + k)) ∙ all in
    let front : take (n + k) now ≡ take n bytes ++ source =
    appended ∙ ap (λ (l : List ℕ). l ++ source) (take-set-le n bytes 23 (192 + (n + k)) (omega arith)) in
    let text : IsUtf8 (take (n + k) now) = subst IsUtf8 (sym front) (IsUtf8-append (take n bytes) source u v) in
    let after : List ℕ = drop (n + k) marked in
    let last : n + k < 24 → get_or now 23 0 ≡ 192 + (n + k) = λ below.
    let front : length (take n marked ++ take k source) ≡ n + k = omega (
      arith,
      length-append (take n marked) (take k source),
      length-take-le n marked (omega arith),
      length-take-le k source (omega arith),
    ) in
    let place : n + k + (23 - (n + k)) ≡ 23 = omega arith in
    subst (λ (l : List ℕ). get_or l 23 0 ≡ 192 + (n + k)) (sym pasted)
    (get_or-append_right (take n marked ++ take k source) after (n + k) 23 0 front (omega arith)
    ∙ get_or-drop (n + k) marked (23 - (n + k)) 0
    ∙ ap (λ (i : ℕ). get_or marked i 0) place
    ∙ get_or-set_same bytes 23 (192 + (n + k)) 0 (omega arith))
    in
    subst (IsPackedFor now) (ap text_of front ∙ chars-append (take n bytes) source u)
    (⊎_elim
    (λ (below : n + k < 24). packs-short now (n + k) whole below text (last below))
    (λ (full : 24 ≤ n + k). packs-full now (n + k) whole (omega arith) text)
    (cases_lt (n + k) 24))

-- the last byte is lowered, after a text of i + 1 bytes that ends in an ASCII one
packs-popped : (bytes : List ℕ) (i : ℕ) → length bytes ≡ 24 → i < 23 → get_or bytes i 0 < 128
    → IsUtf8 (take (i + 1) bytes)
    → IsPackedFor (set bytes 23 (192 + i)) (text_of (take i bytes))
    × (text_of (take (i + 1) bytes) ≡ text_of (take i bytes) ++ get_or bytes i 0 ∷ [])
packs-popped bytes i all short low u =
    let last = text_of-last_ascii (take (i + 1) bytes) (take i bytes) (get_or bytes i 0) u
    (take_more bytes i 0 (omega arith)) low in
    (packs-marked bytes i all (omega arith) last.0, last.1)

length_below : (bytes : List ℕ) → packed_len bytes < 24 → get_or bytes 23 0 ≡ 192 + packed_len bytes
length_below bytes short = ⊎_elim
    (λ (low : get_or bytes 23 0 < 192). let e = len-full bytes low in absurd (omega (arith, e, short)))
    (λ (high : 192 ≤ get_or bytes 23 0). let e = len-high bytes high in omega (arith, e, high))
    (cases_lt (get_or bytes 23 0) 192)

pub packed-pushed : (bytes : List ℕ) (n byte : ℕ) → length bytes ≡ 24 → n ≡ packed_len bytes → n < 24 → byte < 128
    → IsPackedFor bytes (packed_text bytes)
    → IsPackedFor (set (set bytes 23 (get_or bytes 23 0 + 1)) n byte) (packed_text bytes ++ byte ∷ [])
packed-pushed bytes n byte all e short low p =
    let k : ℕ = packed_len bytes in
    let t : List ℕ = packed_text bytes ++ byte ∷ [] in
    subst (λ (m : ℕ). IsPackedFor (set (set bytes 23 (get_or bytes 23 0 + 1)) m byte) t) (sym e)
    (subst (λ (last : ℕ). IsPackedFor (set (set bytes 23 (last + 1)) k byte) t)
    (sym (length_below bytes (omega (arith, e, short))))
    (packs-pushed bytes k byte all (omega (arith, e, short)) low (packed-utf8 bytes (packed_text bytes) p)))

pub packed-appended : (bytes source now : List ℕ) (n : ℕ) → IsPackedFor bytes (packed_text bytes)
    → n ≡ packed_len bytes → length bytes ≡ 24 → length now ≡ 24 → n < 24 → n + length source ≤ 24 → IsUtf8 source
    → now ≡ paste (set bytes 23 (192 + (n + length source))) n source (length source)
    → take (n + length source) now ≡ take n (set bytes 23 (192 + (n + length source))) ++ source
    → IsPackedFor now (packed_text bytes ++ text_of source)
packed-appended bytes source now n p len all whole short fits v pasted appended =
    let u : IsUtf8 (take n bytes) = subst (λ (m : ℕ). IsUtf8 (take m bytes)) (sym len)
    (packed-utf8 bytes (packed_text bytes) p) in
    subst (λ (l : List ℕ). IsPackedFor now (l ++ text_of source)) (ap (λ (m : ℕ). text_of (take m bytes)) len)
    (packs-appended bytes source now n all whole short fits u v pasted appended)

pub packed-popped : (bytes : List ℕ) (last : ℕ) → length bytes ≡ 24 → last ≡ get_or bytes 23 0 → 192 < last
    → last ≤ 215 → get_or bytes (last - 193) 0 < 128 → IsPackedFor bytes (packed_text bytes)
    → let now = set bytes 23 (get_or bytes 23 0 - 1) in
    IsPackedFor now (packed_text now) × (packed_text bytes ≡ packed_text now ++ get_or bytes (last - 193) 0 ∷ [])
packed-popped bytes last all e above most low p =
    let i : ℕ = last - 193 in
    let len : packed_len bytes ≡ i + 1 = len-high bytes (omega (arith, e, above)) ∙ omega (arith, e, above) in
    let lowered : get_or bytes 23 0 - 1 ≡ 192 + i = omega (arith, e, above) in
    let u : IsUtf8 (take (i + 1) bytes) = subst (λ (n : ℕ). IsUtf8 (take n bytes)) len
    (packed-utf8 bytes (packed_text bytes) p) in
    let so = packs-popped bytes i all (omega (arith, above, most)) low u in
    subst (λ (x : ℕ). let now = set bytes 23 x in
    IsPackedFor now (packed_text now) × (packed_text bytes ≡ packed_text now ++ get_or bytes i 0 ∷ []))
    (sym lowered) (
      packed-again _ _ so.0,
      ap (λ (n : ℕ). text_of (take n bytes)) len ∙ so.1
          ∙ ap (λ t. t ++ get_or bytes i 0 ∷ []) (sym (packed-text _ _ so.0)),
    )
