-- Validation of units one by one, with a flag for a pair that is open.
use Rattle.std.proofs.Common.{◌≡◌, ℕ, zero, suc, ◌-◌, ◌/◌, ◌%◌, ◌+◌, ◌<◌, ◌≤◌, ◌⊎◌, Bool, true, false, List, [], ◌∷◌}
use Rattle.std.proofs.Common.{◌++◌, length, drop, get_or, drop-cons, drop_of_length-le, add-one, ◌↔◌, ◌^◌, refl, sym}
use Rattle.std.proofs.Common.{ap, ◌∙◌, arith, ⊎_elim, subst, Option}
use Rattle.std.specs.Prelude.{◌||◌}
use mathlib.Core.Bool.{xor}
use Rattle.std.specs.Char.{IsScalar}
use Rattle.std.specs.Char.Escape.{encode_utf16}
use Rattle.std.specs.Char.Utf16.{is_high_surrogate, is_low_surrogate, utf16_chars, has_unpaired_surrogate}
use Rattle.std.specs.List.{list_any}
use Rattle.std.specs.Prelude.{is_some, not, IsTrue}
use Rattle.std.proofs.str.Utf16.{one_unit, two_units}
use Rattle.std.proofs.lemmas.Bool.{cases_lt, le-leb, lt-leb, lt-ltb, le-ltb, not-true}
use Rattle.std.proofs.Math.Bool.{or_assoc}
use Rattle.std.proofs.lemmas.Str.{utf16_chars-nil}
use Rattle.std.proofs.lemmas.List.{get_or_default}
use Rattle.compact_codec.specs.Utf16Text.{AreUnits, IsUtf16, BeginsWithLowSurrogate, BeginsWithUnpairedSurrogate}
use Rattle.compact_codec.proofs.Utf16TextLemmas.{begins_or_unpaired, chars_at_character, chars_at_unpaired}
use Rattle.compact_codec.proofs.Utf16TextLemmas.{shorter_after, rest_is_drop, paired_is, AreUnits-first, AreUnits-drop}
use Rattle.compact_codec.proofs.Utf16TextLemmas.{scalar_apart, scalar_top}

-- some surrogate is unpaired, if the unit before was, or was not, the first of a pair
abbrev pub has_unpaired : Bool → List ℕ → Bool
has_unpaired after_high [] = after_high
has_unpaired after_high (u ∷ units) = xor after_high (is_low_surrogate u) || has_unpaired (is_high_surrogate u) units

low_surrogate : (u : ℕ) → 0xDC00 ≤ u → u < 0xE000 → (is_low_surrogate u ≡ true) × (is_high_surrogate u ≡ false)
low_surrogate u from below = (
  rw (le-leb 0xDC00 u from, lt-ltb u 0xE000 below) refl,
  rw (le-leb 0xD800 u (omega arith), le-ltb u 0xDC00 from) refl,
)

high_surrogate : (u : ℕ) → 0xD800 ≤ u → u < 0xDC00 → (is_low_surrogate u ≡ false) × (is_high_surrogate u ≡ true)
high_surrogate u from below = (rw (lt-leb 0xDC00 u below) refl, rw (le-leb 0xD800 u from, lt-ltb u 0xDC00 below) refl)

below_surrogates : (u : ℕ) → u < 0xD800 → (is_low_surrogate u ≡ false) × (is_high_surrogate u ≡ false)
below_surrogates u below = (rw (lt-leb 0xDC00 u (omega arith)) refl, rw (lt-leb 0xD800 u below) refl)

above_surrogates : (u : ℕ) → 0xE000 ≤ u → (is_low_surrogate u ≡ false) × (is_high_surrogate u ≡ false)
above_surrogates u from = (
  rw (le-leb 0xDC00 u (omega arith), le-ltb u 0xE000 from) refl,
  rw (le-leb 0xD800 u (omega arith), le-ltb u 0xDC00 (omega arith)) refl,
)

no_surrogate : (u : ℕ) → (u < 0xD800) ⊎ (0xE000 ≤ u) → (is_low_surrogate u ≡ false) × (is_high_surrogate u ≡ false)
no_surrogate u apart = ⊎_elim (below_surrogates u) (above_surrogates u) apart

-- a character passes
character_passes : (c : ℕ) (rest : List ℕ) → IsScalar c → has_unpaired false (encode_utf16 c ++ rest)
    ≡ has_unpaired false rest
unfolding xor
character_passes c rest is =
    let top = scalar_top c is in
    ⊎_elim
    (λ one.
    let plain = no_surrogate c (scalar_apart c is) in
    ap (λ l. has_unpaired false (l ++ rest)) (one_unit c one)
    ∙ (λ i. xor false (plain.0 i) || has_unpaired (plain.1 i) rest))
    (λ two.
    let high = high_surrogate (0xD800 + (c - 0x1_0000) / 0x400) (omega arith) (omega arith) in
    let low = low_surrogate (0xDC00 + (c - 0x1_0000) % 0x400) (omega arith) (omega arith) in
    ap (λ l. has_unpaired false (l ++ rest)) (two_units c two)
    ∙ (λ i. xor false (high.0 i) || (xor (high.1 i) (low.0 i) || has_unpaired (low.1 i) rest)))
    (cases_lt c 0x1_0000)

-- an unpaired surrogate does not
unpaired_stops : (units : List ℕ) → BeginsWithUnpairedSurrogate units → has_unpaired false units ≡ true
unfolding xor
unpaired_stops [] unpaired = absurd unpaired
unpaired_stops (u ∷ units) unpaired = ⊎_elim
    (λ is. let low = low_surrogate u is.0 (omega (arith, is)) in
    ap (λ b. xor false b || has_unpaired (is_high_surrogate u) units) low.0)
    (λ is.
    let in_range = is.0 in
    let high = high_surrogate u in_range.0 (omega (arith, in_range)) in
    (λ i. xor false (high.0 i) || has_unpaired (high.1 i) units) ∙ open_stops units is.1)
    unpaired
  where
    open_stops : (units : List ℕ) → ¬ (BeginsWithLowSurrogate units) → has_unpaired true units ≡ true
    open_stops [] not_low = refl
    open_stops (v ∷ rest) not_low = ⊎_elim
        (λ (below : v < 0xDC00).
        let none : is_low_surrogate v ≡ false = rw (lt-leb 0xDC00 v below) refl in
        ap (λ b. xor true b || has_unpaired (is_high_surrogate v) rest) none)
        (λ (from : 0xDC00 ≤ v). ⊎_elim
        (λ (low : v < 0xE000). absurd (not_low (from, omega arith)))
        (λ (above : 0xE000 ≤ v). ap (λ b. xor true b || has_unpaired (is_high_surrogate v) rest)
        (above_surrogates v above).0)
        (cases_lt v 0xE000))
        (cases_lt v 0xDC00)

-- it is std's test
abbrev is_unpaired : Option ℕ → Bool
is_unpaired o = not (is_some o)

unpaired_within : (fuel : ℕ) (units : List ℕ) → length units ≤ fuel → AreUnits units
    → has_unpaired false units ≡ has_unpaired_surrogate units
unpaired_within fuel [] le all = ap (list_any is_unpaired) (sym utf16_chars-nil)
unpaired_within zero (u ∷ units) le all = absurd (omega arith)
unpaired_within (suc fuel) (u ∷ units) le all = ⊎_elim
    (λ p.
    let c = p.0 in
    let rest = p.1 in
    let later = unpaired_within fuel rest (shorter_after fuel (u ∷ units) c rest p.3 le)
    (subst AreUnits (sym (rest_is_drop (u ∷ units) c rest p.3))
    (AreUnits-drop (u ∷ units) (length (encode_utf16 c)) all)) in
    ap (has_unpaired false) p.3 ∙ character_passes c rest p.2 ∙ later
    ∙ sym (ap (list_any is_unpaired) (ap utf16_chars p.3 ∙ chars_at_character c rest p.2)))
    (λ unpaired. unpaired_stops (u ∷ units) unpaired ∙ sym (ap (list_any is_unpaired)
    (chars_at_unpaired (u ∷ units) unpaired)))
    (begins_or_unpaired u units (AreUnits-first u units all))

pub has_unpaired-is : (units : List ℕ) → AreUnits units → has_unpaired false units ≡ has_unpaired_surrogate units
has_unpaired-is units all = unpaired_within (length units) units (omega arith) all

-- a step of validation, and its end
pub unpaired_step : (units : List ℕ) (at : ℕ) (unpaired after_high low high found : Bool) → at < length units
    → low ≡ is_low_surrogate (get_or units at 0)
    → high ≡ is_high_surrogate (get_or units at 0) → (unpaired || has_unpaired after_high (drop at units)) ≡ found
    → ((unpaired || xor after_high low) || has_unpaired high (drop (at + 1) units)) ≡ found
unpaired_step units at unpaired after_high low high found within low_is high_is so_far =
    let parts : drop at units ≡ get_or units at 0 ∷ drop (at + 1) units = rw add-one (drop-cons units at 0 within) in
    or_assoc unpaired (xor after_high low) (has_unpaired high (drop (at + 1) units))
    ∙ (λ i. unpaired || (xor after_high (low_is i) || has_unpaired (high_is i) (drop (at + 1) units)))
    ∙ ap (λ l. unpaired || has_unpaired after_high l) (sym parts) ∙ so_far

pub unpaired_end : (units : List ℕ) (at : ℕ) (unpaired after_high r : Bool) → length units ≤ at
    → ((k : ℕ) → k < at → get_or units k 0 < 2 ^ 16)
    → (unpaired || has_unpaired after_high (drop at units)) ≡ has_unpaired false units
    → r ≡ not (unpaired || after_high) → IsTrue r ↔ IsUtf16 units
unpaired_end units at unpaired after_high r past fit found is =
    let all : AreUnits units = λ k d within. subst (λ u. u < 2 ^ 16) (get_or_default units k 0 d within)
    (fit k (omega arith)) in
    let unpaired : (unpaired || after_high) ≡ has_unpaired_surrogate units =
    ap (λ l. unpaired || has_unpaired after_high l) (sym (drop_of_length-le units past)) ∙ found
    ∙ has_unpaired-is units all in
    let answer : r ≡ not (has_unpaired_surrogate units) = is ∙ ap not unpaired in (
      λ yes. (paired_is units all).1 (not-true _ (sym answer ∙ yes)),
      λ text. answer
          ∙ ap not ((paired_is units all).0 text),
    )
