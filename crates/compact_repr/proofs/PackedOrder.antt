-- The order of two texts by their packed bytes.
use Rattle.std.proofs.Common.{◌≡◌, ℕ, ◌<◌, ◌≤◌, List, length, take, get_or, ap, ap₂, sym, ◌∙◌, arith, ⊎_elim}
use Rattle.std.specs.Prelude.{◌≢◌, slice_index_or}
use Rattle.std.specs.Cmp.Lexicographic.{slice_cmp}
use Rattle.std.specs.Ordering.{nat_cmp}
use Rattle.std.proofs.lemmas.Bool.{cases_lt}
use Rattle.std.proofs.lemmas.List.{get_or-take, length-take-le}
use Rattle.compact_text.specs.Text.{utf8}
use Rattle.compact_repr.specs.Packed.{IsPackedFor, packed_len, packed_text}
use Rattle.compact_text.proofs.Texts.{utf8-text_of}
use Rattle.compact_repr.proofs.ByteOrder.{utf8-order, first-decides}
use Rattle.compact_repr.proofs.PackedTexts.{len-full, len-high, packed-utf8}
use Rattle.compact_repr.proofs.PackedCuts.{len-fits}

-- a text that is not empty begins with the first packed byte
first_packed : {t : List ℕ} (bytes : List ℕ) → length bytes ≡ 24 → packed_text bytes ≡ t
    → IsPackedFor bytes (packed_text bytes) → get_or bytes 23 0 ≢ 192
    → (0 < length (utf8 t)) × (slice_index_or (utf8 t) 0 0 ≡ get_or bytes 0 0)
first_packed {t} bytes all e p some =
    let n : ℕ = packed_len bytes in
    let most = len-fits bytes e p in
    let has : 0 < n =
    ⊎_elim
    (λ (low : get_or bytes 23 0 < 192). let full = len-full bytes low in omega (arith, full))
    (λ (high : 192 ≤ get_or bytes 23 0). let told = len-high bytes high in omega (arith, told, some))
    (cases_lt (get_or bytes 23 0) 192) in
    let front : utf8 t ≡ take n bytes = ap utf8 (sym e) ∙ utf8-text_of (take n bytes)
    (packed-utf8 bytes (packed_text bytes) p) in
    let long : length (take n bytes) ≡ n = length-take-le n bytes (omega (arith, most, all)) in
    let size : length (utf8 t) ≡ n = ap length front ∙ long in
    (omega (arith, size, has), ap (λ (ys : List ℕ). get_or ys 0 0) front ∙ get_or-take n bytes 0 0 has)

-- first bytes that differ decide
pub order_packed : {s t : List ℕ} (a b : List ℕ) → length a ≡ 24 → length b ≡ 24 → packed_text a ≡ s → packed_text b ≡ t
    → IsPackedFor a (packed_text a) → IsPackedFor b (packed_text b) → get_or a 23 0 ≢ 192 → get_or b 23 0 ≢ 192
    → get_or a 0 0 ≢ get_or b 0 0
    → slice_cmp nat_cmp s t ≡ nat_cmp (get_or a 0 0) (get_or b 0 0)
order_packed {s} {t} a b k l d e p q some also apart =
    let one = first_packed a k d p some in
    let two = first_packed b l e q also in
    sym (utf8-order s t)
    ∙ first-decides (utf8 s) (utf8 t) one.0 two.0 (λ same. apart (sym one.1 ∙ same ∙ two.1))
    ∙ ap₂ nat_cmp one.1 two.1
