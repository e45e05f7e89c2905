-- An array into which characters are written.
use Rattle.std.proofs.Common.{◌≡◌, ◌⊎◌, ⊎_elim, inl, inr, true, false, cond, ltb, get_or, Some, drop-cons, add-one, ◌/◌}
use Rattle.std.proofs.Common.{◌%◌, ℕ, ◌+◌, ◌<◌, ◌≤◌, List, [], ◌∷◌, ◌++◌, length, take, drop, set, length-set, refl}
use Rattle.std.proofs.Common.{sym, ap, subst, ◌∙◌, arith, append-nil, append_assoc}
use Rattle.std.specs.Char.{IsScalar, encode_utf8}
use Rattle.std.specs.Str.{IsUtf8}
use Rattle.std.specs.Int.{is_in_range}
use Rattle.std.proofs.lemmas.Grind.{take-set_at}
use Rattle.std.proofs.lemmas.Str.{chars-append, chars-encodes, IsUtf8-append, IsUtf8-encode}
use Rattle.compact_repr.specs.Text.{text_of}
use Rattle.compact_codec.specs.Utf16Text.{utf16_lossy_text}
use Rattle.compact_codec.proofs.Utf16TextLemmas.{utf16_lossy_text-step}
use Rattle.compact_text.proofs.Encodings.{encode_one, encode_two, encode_three}
use Rattle.compact_codec.proofs.Rows.{high_scalar}
use Rattle.std.proofs.str.Utf16.{one_unit}
use Rattle.std.proofs.lemmas.Bool.{cases_lt, and_from, cond-true, cond-false, lt-ltb, le-ltb, leb-false, and_cases}
use Rattle.std.proofs.lemmas.List.{take-set-le}
use lib.Utf8.{low_scalar}

-- a character's bytes decode to it
text_of-encode_utf8 : (c : ℕ) → IsScalar c → text_of (encode_utf8 c) ≡ c ∷ []
text_of-encode_utf8 c is = ap text_of (sym (append-nil (encode_utf8 c)))
    ∙ chars-encodes (c ∷ []) (and_from _ true is refl)

-- one more byte
pub byte_after : (row front : List ℕ) (i n y : ℕ) → take i row ≡ front → n ≡ i + 1 → i < length row
    → take n (set row i y) ≡ front ++ y ∷ []
byte_after row front i n y is next within = take-set_at row i n y next within ∙ ap (λ l. l ++ y ∷ []) is

-- one more character
pub character_after : (whole left more bytes next : List ℕ) (c : ℕ) → text_of bytes ++ left ≡ whole → left ≡ c ∷ more
    → next ≡ bytes ++ encode_utf8 c
    → IsUtf8 bytes → IsScalar c → (text_of next ++ more ≡ whole) × IsUtf8 next
character_after whole left more bytes next c so_far begins is utf8 scalar =
    let own : text_of (encode_utf8 c) ≡ c ∷ [] = text_of-encode_utf8 c scalar in
    let spelled : text_of next ≡ text_of bytes ++ (c ∷ []) = ap text_of is ∙ chars-append bytes (encode_utf8 c) utf8
    ∙ ap (λ t. text_of bytes ++ t) own in (
      ap (λ t. t ++ more) spelled ∙ append_assoc (text_of bytes) (c ∷ []) more
          ∙ ap (λ t. text_of bytes ++ t) (sym begins) ∙ so_far,
      subst IsUtf8 (sym is) (IsUtf8-append bytes (encode_utf8 c) utf8 (IsUtf8-encode c scalar)),
    )

-- two, three and four more bytes
pub two_after : (row : List ℕ) (i a b : ℕ) → i + 2 ≤ length row
    → take (i + 2) (set (set row i a) (i + 1) b) ≡ take i row ++ (a ∷ b ∷ [])
two_after row i a b within =
    let one = byte_after row (take i row) i (i + 1) a refl refl (omega (arith, within)) in
    byte_after (set row i a) (take i row ++ a ∷ []) (i + 1) (i + 2) b one (omega arith)
    (omega (arith, within, length-set row i a))
    ∙ append_assoc (take i row) (a ∷ []) (b ∷ [])

pub three_after : (row : List ℕ) (i a b d : ℕ) → i + 3 ≤ length row
    → take (i + 3) (set (set (set row i a) (i + 1) b) (i + 2) d) ≡ take i row ++ (a ∷ b ∷ d ∷ [])
three_after row i a b d within =
    let two = two_after row i a b (omega (arith, within)) in
    byte_after (set (set row i a) (i + 1) b) (take i row ++ (a ∷ b ∷ [])) (i + 2) (i + 3) d two (omega arith)
    (omega (arith, within, length-set row i a, length-set (set row i a) (i + 1) b))
    ∙ append_assoc (take i row) (a ∷ b ∷ []) (d ∷ [])

pub four_after : (row : List ℕ) (i a b d e : ℕ) → i + 4 ≤ length row
    → take (i + 4) (set (set (set (set row i a) (i + 1) b) (i + 2) d) (i + 3) e) ≡ take i row ++ (a ∷ b ∷ d ∷ e ∷ [])
four_after row i a b d e within =
    let three = three_after row i a b d (omega (arith, within)) in
    byte_after (set (set (set row i a) (i + 1) b) (i + 2) d) (take i row ++ (a ∷ b ∷ d ∷ [])) (i + 3) (i + 4) e three
    (omega arith)
    (omega (
      arith,
      within,
      length-set row i a,
      length-set (set row i a) (i + 1) b,
      length-set (set (set row i a) (i + 1) b) (i + 2) d,
    ))
    ∙ append_assoc (take i row) (a ∷ b ∷ d ∷ []) (e ∷ [])

-- the first character of the units from `at` on, and its length

-- a unit that is no surrogate is a character
pub own_step : (u : ℕ) (units : List ℕ) → IsScalar u → u < 0x1_0000
    → utf16_lossy_text (u ∷ units) ≡ u ∷ utf16_lossy_text units
own_step u units is one = utf16_lossy_text-step (u ∷ units) (Some u) 1 (is, omega arith, sym (one_unit u one))

pub unit_at : (units : List ℕ) (at u : ℕ) → at < length units → u ≡ get_or units at 0 → u < 0x1_0000
    → is_in_range 0xD800 0xDFFF u ≡ false
    → (utf16_lossy_text (drop at units) ≡ u ∷ utf16_lossy_text (drop (at + 1) units)) × IsScalar u
unit_at units at u within is one alone =
    let apart : (u < 0xD800) ⊎ (0xE000 ≤ u) = ⊎_elim (λ low. inl (leb-false _ _ low))
    (λ high. inr (leb-false _ _ high)) (and_cases _ _ alone) in
    let scalar : IsScalar u = ⊎_elim (λ below. low_scalar u below) (λ from. high_scalar u from (omega (arith, one)))
    apart in
    let parts : drop at units ≡ u ∷ drop (at + 1) units = rw add-one (drop-cons units at 0 within)
    ∙ ap (λ v. v ∷ drop (at + 1) units) (sym is) in
    (ap utf16_lossy_text parts ∙ own_step u (drop (at + 1) units) scalar one, scalar)

-- three bytes are written, of which one, two or three are the character
pub after_unit : (row : List ℕ) (i u first second last n : ℕ) → i + 4 ≤ length row → u < 0x1_0000 → last ≡ 128 + u % 64
    → first ≡ cond (ltb u 0x80) u (cond (ltb u 0x800) (192 + u / 64) (224 + u / 4096))
    → second ≡ cond (ltb u 0x800) last (128 + (u / 64) % 64)
    → n ≡ i + cond (ltb u 0x80) 1 (cond (ltb u 0x800) 2 3) → take n
    (set (set (set row i first) (i + 1) second) (i + 2) last) ≡ take i row ++ encode_utf8 u
after_unit row i u first second last n room one last_is first_is second_is n_is = ⊎_elim
    (λ (low : u < 0x80).
    let t : ltb u 0x80 ≡ true = lt-ltb u 0x80 low in
    let f : first ≡ u = first_is ∙ cond-true _ _ _ t in
    let m : n ≡ i + 1 = n_is ∙ ap (λ k. i + k) (cond-true _ _ _ t) in
    ap (λ k. take k (set (set (set row i first) (i + 1) second) (i + 2) last)) m
    ∙ take-set-le (i + 1) (set (set row i first) (i + 1) second) (i + 2) last (omega arith)
    ∙ take-set-le (i + 1) (set row i first) (i + 1) second (omega arith)
    ∙ byte_after row (take i row) i (i + 1) first refl refl (omega (arith, room)) ∙ ap (λ b. take i row ++ b ∷ []) f
    ∙ ap (λ l. take i row ++ l) (sym (encode_one u low)))
    (λ (from : 0x80 ≤ u). ⊎_elim
    (λ (mid : u < 0x800).
    let t : ltb u 0x80 ≡ false = le-ltb u 0x80 from in
    let w : ltb u 0x800 ≡ true = lt-ltb u 0x800 mid in
    let f : first ≡ 192 + u / 64 = first_is ∙ cond-false _ _ _ t ∙ cond-true _ _ _ w in
    let s : second ≡ 128 + u % 64 = second_is ∙ cond-true _ _ _ w ∙ last_is in
    let m : n ≡ i + 2 = n_is ∙ ap (λ k. i + k) (cond-false _ _ _ t ∙ cond-true _ _ _ w) in
    ap (λ k. take k (set (set (set row i first) (i + 1) second) (i + 2) last)) m
    ∙ take-set-le (i + 2) (set (set row i first) (i + 1) second) (i + 2) last (omega arith)
    ∙ two_after row i first second (omega (arith, room)) ∙ (λ j. take i row ++ (f j ∷ s j ∷ []))
    ∙ ap (λ l. take i row ++ l) (sym (encode_two u from mid)))
    (λ (high : 0x800 ≤ u).
    let t : ltb u 0x80 ≡ false = le-ltb u 0x80 from in
    let w : ltb u 0x800 ≡ false = le-ltb u 0x800 high in
    let f : first ≡ 224 + u / 4096 = first_is ∙ cond-false _ _ _ t ∙ cond-false _ _ _ w in
    let s : second ≡ 128 + (u / 64) % 64 = second_is ∙ cond-false _ _ _ w in
    let m : n ≡ i + 3 = n_is ∙ ap (λ k. i + k) (cond-false _ _ _ t ∙ cond-false _ _ _ w) in
    ap (λ k. take k (set (set (set row i first) (i + 1) second) (i + 2) last)) m
    ∙ three_after row i first second last (omega (arith, room)) ∙ (λ j. take i row ++ (f j ∷ s j ∷ last_is j ∷ []))
    ∙ ap (λ l. take i row ++ l) (sym (encode_three u high one)))
    (cases_lt u 0x800))
    (cases_lt u 0x80)
