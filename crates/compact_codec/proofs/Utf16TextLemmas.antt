-- Units of UTF-16 as characters and unpaired surrogates.
use Rattle.std.proofs.Common.{◌≡◌, ℕ, zero, suc, ◌+◌, ◌-◌, ◌*◌, ◌/◌, ◌%◌, ◌^◌, ◌<◌, ◌≤◌, ◌⊎◌, Bool, true, false, not}
use Rattle.std.proofs.Common.{List, [], ◌∷◌, ◌++◌, map, length, take, drop, get_or, Option, Some, None, refl, sym, ap}
use Rattle.std.proofs.Common.{subst, ◌∙◌, arith, inl, inr, ⊎_elim, append_assoc, append-nil, length-append, length-drop}
use Rattle.std.proofs.Common.{take_all, take-append-drop, drop_at, get_or-drop, drop-cons, add-one}
use Rattle.std.specs.Prelude.{unwrap_or, is_some, slice_get}
use Rattle.std.specs.Char.{IsScalar}
use Rattle.std.specs.Char.Escape.{encode_utf16}
use Rattle.std.specs.Char.Utf16.{utf16_chars, lone_unit_char, surrogate_pair_char, has_unpaired_surrogate}
use Rattle.std.specs.List.{flat_map, list_any}
use Rattle.std.specs.Str.{all_scalars}
use Rattle.std.proofs.str.Utf16.{IsPair, one_unit, two_units, lone_unit_char_low, lone_unit_char_high}
use Rattle.std.proofs.str.Utf16.{lone_unit_char_surrogate}
use Rattle.std.proofs.lemmas.Bool.{cases_lt, and_parts, and_from, true≢false}
use Rattle.std.proofs.lemmas.Str.{utf16_chars-nil, utf16_chars_lone, utf16_chars_pair}
use lib.Utf8.{scalar, scalar_cases, low_scalar}
use Rattle.compact_text.specs.Text.{replacement_character}
use Rattle.compact_codec.specs.Utf16Text.{AreUnits, IsHighSurrogate, IsLowSurrogate, UnitsEncode, IsUtf16}
use Rattle.compact_codec.specs.Utf16Text.{BeginsWithLowSurrogate, BeginsWithUnpairedSurrogate, IsUtf16LossyText}
use Rattle.compact_codec.specs.Utf16Text.{utf16_lossy_text, IsUtf16Step, UnitsEncodeOneText}
use Rattle.compact_codec.specs.Utf16Text.{Utf16HasNoUnpairedSurrogate, Utf16LossyTextIsUnique, Utf16LossyTextOfText}
use Rattle.compact_codec.proofs.Rows.{high_scalar}

pub scalar_top : (c : ℕ) → IsScalar c → c < 0x11_0000
scalar_top c is = ⊎_elim (λ low. omega arith) (λ high. high.1) (scalar_cases c is)

pub scalar_apart : (c : ℕ) → IsScalar c → (c < 0xD800) ⊎ (0xE000 ≤ c)
scalar_apart c is = ⊎_elim (λ low. inl low) (λ high. inr high.0) (scalar_cases c is)

-- two characters whose units begin the same units are equal
one_one : (c d : ℕ) (r t : List ℕ) → c ∷ r ≡ d ∷ t → (c ≡ d) × (r ≡ t)
one_one c d r t e = (ap (λ l. get_or l 0 0) e, ap (drop 1) e)

pub encode_utf16_same : (c d : ℕ) (r t : List ℕ) → IsScalar c → IsScalar d → encode_utf16 c ++ r ≡ encode_utf16 d ++ t
    → (c ≡ d) × (r ≡ t)
encode_utf16_same c d r t c_is d_is same =
    let c_top = scalar_top c c_is in
    let d_top = scalar_top d d_is in
    let c_apart = scalar_apart c c_is in
    let d_apart = scalar_apart d d_is in
    ⊎_elim
    (λ c_one. ⊎_elim
    (λ d_one. one_one c d r t (sym (ap (λ l. l ++ r) (one_unit c c_one)) ∙ same ∙ ap (λ l. l ++ t) (one_unit d d_one)))
    (λ d_two.
    let units = sym (ap (λ l. l ++ r) (one_unit c c_one)) ∙ same ∙ ap (λ l. l ++ t) (two_units d d_two) in
    let first : c ≡ 0xD800 + (d - 0x1_0000) / 0x400 = ap (λ l. get_or l 0 0) units in
    absurd (omega arith))
    (cases_lt d 0x1_0000))
    (λ c_two. ⊎_elim
    (λ d_one.
    let units = sym (ap (λ l. l ++ r) (two_units c c_two)) ∙ same ∙ ap (λ l. l ++ t) (one_unit d d_one) in
    let first : 0xD800 + (c - 0x1_0000) / 0x400 ≡ d = ap (λ l. get_or l 0 0) units in
    absurd (omega arith))
    (λ d_two.
    let units = sym (ap (λ l. l ++ r) (two_units c c_two)) ∙ same ∙ ap (λ l. l ++ t) (two_units d d_two) in
    let first : 0xD800 + (c - 0x1_0000) / 0x400 ≡ 0xD800 + (d - 0x1_0000) / 0x400 = ap (λ l. get_or l 0 0) units in
    let second : 0xDC00 + (c - 0x1_0000) % 0x400 ≡ 0xDC00 + (d - 0x1_0000) % 0x400 = ap (λ l. get_or l 1 0) units in
    (omega arith, ap (drop 2) units))
    (cases_lt d 0x1_0000))
    (cases_lt c 0x1_0000)

pub length-encode_utf16 : (c : ℕ) → (1 ≤ length (encode_utf16 c)) × (length (encode_utf16 c) ≤ 2)
length-encode_utf16 c = ⊎_elim
    (λ one. let e = ap length (one_unit c one) in (omega arith, omega arith))
    (λ two. let e = ap length (two_units c two) in (omega arith, omega arith))
    (cases_lt c 0x1_0000)

pub units_encode_one_text : UnitsEncodeOneText
units_encode_one_text units text other is is_too = one_text text other is.0 is_too.0 (is.1 ∙ sym is_too.1)
  where
    none_left : (c : ℕ) (more : List ℕ) → [] ≡ encode_utf16 c ++ more → ⊥
    none_left c more e = omega (arith, ap length e, length-append (encode_utf16 c) more, (length-encode_utf16 c).0)

    one_text : (cs ds : List ℕ) → all_scalars cs ≡ true → all_scalars ds ≡ true
        → flat_map encode_utf16 cs ≡ flat_map encode_utf16 ds → cs ≡ ds
    one_text [] [] p q same = refl
    one_text [] (d ∷ ds) p q same = absurd (none_left d (flat_map encode_utf16 ds) same)
    one_text (c ∷ cs) [] p q same = absurd (none_left c (flat_map encode_utf16 cs) (sym same))
    one_text (c ∷ cs) (d ∷ ds) p q same =
        let c_all = and_parts _ _ p in
        let d_all = and_parts _ _ q in
        let both = encode_utf16_same c d (flat_map encode_utf16 cs) (flat_map encode_utf16 ds) c_all.0 d_all.0 same in
        λ i. both.0 i ∷ one_text cs ds c_all.1 d_all.1 both.1 i

pub unpaired_begins_none : (units : List ℕ) (c : ℕ) (rest : List ℕ) → BeginsWithUnpairedSurrogate units → IsScalar c
    → units ≡ encode_utf16 c ++ rest → ⊥
unpaired_begins_none [] c rest unpaired is same = absurd unpaired
unpaired_begins_none (u ∷ units) c rest unpaired is same =
    let top = scalar_top c is in
    let apart = scalar_apart c is in
    ⊎_elim
    (λ one.
    let parts = same ∙ ap (λ l. l ++ rest) (one_unit c one) in
    let first : u ≡ c = ap (λ l. get_or l 0 0) parts in
    ⊎_elim (λ low. absurd (omega arith)) (λ high. let high_is = high.0 in absurd (omega arith)) unpaired)
    (λ two.
    let parts = same ∙ ap (λ l. l ++ rest) (two_units c two) in
    let first : u ≡ 0xD800 + (c - 0x1_0000) / 0x400 = ap (λ l. get_or l 0 0) parts in
    let after : units ≡ (0xDC00 + (c - 0x1_0000) % 0x400) ∷ rest = ap (drop 1) parts in
    ⊎_elim (λ low. absurd (omega arith)) (λ high. high.1 (subst BeginsWithLowSurrogate (sym after)
    (omega arith, omega arith))) unpaired)
    (cases_lt c 0x1_0000)

-- std's decoding of a step
pub chars_at_character : (c : ℕ) (rest : List ℕ) → IsScalar c
    → utf16_chars (encode_utf16 c ++ rest) ≡ Some c ∷ utf16_chars rest
chars_at_character c rest is =
    let top = scalar_top c is in
    ⊎_elim
    (λ one.
    let no_pair : ¬ (IsPair c (get_or rest 0 0)) = λ pair. let low = pair.0 in let high = pair.1 in
    ⊎_elim (λ below. absurd (omega arith)) (λ from. absurd (omega arith)) (scalar_apart c is) in
    let own : lone_unit_char c ≡ Some c = ⊎_elim (λ below. lone_unit_char_low c below)
    (λ from. lone_unit_char_high c from) (scalar_apart c is) in
    ap (λ l. utf16_chars (l ++ rest)) (one_unit c one) ∙ utf16_chars_lone c rest no_pair
    ∙ ap (λ o. o ∷ utf16_chars rest) own)
    (λ two.
    let u = 0xD800 + (c - 0x1_0000) / 0x400 in
    let v = 0xDC00 + (c - 0x1_0000) % 0x400 in
    let pair : IsPair u v = (omega arith, omega arith, omega arith, omega arith) in
    let value : surrogate_pair_char u v ≡ c = omega arith in
    ap (λ l. utf16_chars (l ++ rest)) (two_units c two) ∙ utf16_chars_pair u v rest pair
    ∙ ap (λ d. Some d ∷ utf16_chars rest) value)
    (cases_lt c 0x1_0000)

pub chars_at_unpaired : (units : List ℕ) → BeginsWithUnpairedSurrogate units
    → utf16_chars units ≡ None ∷ utf16_chars (drop 1 units)
chars_at_unpaired [] unpaired = absurd unpaired
chars_at_unpaired (u ∷ []) unpaired =
    let in_range : (0xD800 ≤ u) × (u < 0xE000) = ⊎_elim (λ low. (omega arith, omega arith))
    (λ high. let is = high.0 in (omega arith, omega arith)) unpaired in
    utf16_chars_lone u [] (λ pair. let low = pair.2 in absurd (omega arith))
    ∙ ap (λ o. o ∷ utf16_chars []) (lone_unit_char_surrogate u in_range.0 in_range.1)
chars_at_unpaired (u ∷ v ∷ rest) unpaired =
    let in_range : (0xD800 ≤ u) × (u < 0xE000) = ⊎_elim (λ low. (omega arith, omega arith))
    (λ high. let is = high.0 in (omega arith, omega arith)) unpaired in
    utf16_chars_lone u (v ∷ rest)
    (λ pair. ⊎_elim (λ low. let below = pair.1 in absurd (omega arith))
    (λ high. let from = pair.2 in let to = pair.3 in high.1 (omega arith, omega arith)) unpaired)
    ∙ ap (λ o. o ∷ utf16_chars (v ∷ rest)) (lone_unit_char_surrogate u in_range.0 in_range.1)

-- one step, and the lossy text
pub first_step_within : (units : List ℕ) (o : Option ℕ) (n : ℕ) → IsUtf16Step units o n → (0 < n) × (n ≤ length units)
first_step_within units (Some c) zero is = absurd (omega (arith, ap length is.2, (length-encode_utf16 c).0))
first_step_within units (Some c) (suc n) is = (omega arith, is.1)
first_step_within [] None n is = absurd is.0
first_step_within (u ∷ units) None n is = let one = is.1 in (omega arith, omega arith)

pub utf16_lossy_text-step : (units : List ℕ) (o : Option ℕ) (n : ℕ) → IsUtf16Step units o n
    → utf16_lossy_text units ≡ unwrap_or o replacement_character ∷ utf16_lossy_text (drop n units)
utf16_lossy_text-step units (Some c) n is =
    let parts : units ≡ encode_utf16 c ++ drop n units = sym (take-append-drop n units)
    ∙ ap (λ l. l ++ drop n units) is.2 in
    ap (map (λ o. unwrap_or o 0xFFFD)) (ap utf16_chars parts ∙ chars_at_character c (drop n units) is.0)
utf16_lossy_text-step units None n is =
    ap (map (λ o. unwrap_or o 0xFFFD)) (chars_at_unpaired units is.0)
    ∙ ap (λ k. replacement_character ∷ utf16_lossy_text (drop k units)) (sym is.1)

-- units begin with a character or with an unpaired surrogate
module _ (u : ℕ) (units : List ℕ) where
  abbrev pub BeginsCharacter : Type 0
  BeginsCharacter = (c : ℕ) × (rest : List ℕ) × IsScalar c × (u ∷ units ≡ encode_utf16 c ++ rest)

  own_character : (scalar u ≡ true) → u < 0x1_0000 → BeginsCharacter
  own_character is one = (u, units, is, ap (λ l. l ++ units) (sym (one_unit u one)))

pair_units_of : (u v c : ℕ) (rest : List ℕ) → c ≡ 0x1_0000 + (u - 0xD800) * 0x400 + (v - 0xDC00) → IsHighSurrogate u
    → IsLowSurrogate v → u ∷ v ∷ rest ≡ encode_utf16 c ++ rest
pair_units_of u v c rest is high low =
    let first : u ≡ 0xD800 + (c - 0x1_0000) / 0x400 = omega arith in
    let second : v ≡ 0xDC00 + (c - 0x1_0000) % 0x400 = omega arith in
    (λ i. first i ∷ second i ∷ rest) ∙ ap (λ l. l ++ rest) (sym (two_units c (omega arith)))

pub begins_or_unpaired : (u : ℕ) (units : List ℕ) → u < 2 ^ 16
    → BeginsCharacter u units ⊎ BeginsWithUnpairedSurrogate (u ∷ units)
begins_or_unpaired u units fits = ⊎_elim
    (λ (below : u < 0xD800). inl (own_character u units (low_scalar u below) (omega arith)))
    (λ (from : 0xD800 ≤ u). ⊎_elim
    (λ (surrogate : u < 0xE000). ⊎_elim
    (λ (high : u < 0xDC00). by_second units (from, omega arith))
    (λ (low : 0xDC00 ≤ u). inr (inl (low, omega arith)))
    (cases_lt u 0xDC00))
    (λ (above : 0xE000 ≤ u). inl (own_character u units (high_scalar u above (omega arith)) (omega arith)))
    (cases_lt u 0xE000))
    (cases_lt u 0xD800)
  where
    by_second : (units : List ℕ) → IsHighSurrogate u → BeginsCharacter u units ⊎ BeginsWithUnpairedSurrogate (u ∷ units)
    by_second [] high = inr (inr (high, λ none. none))
    by_second (v ∷ rest) high = ⊎_elim
        (λ (below : v < 0xDC00). inr (inr (high, λ low. let low_from = low.0 in absurd (omega arith))))
        (λ (from : 0xDC00 ≤ v). ⊎_elim
        (λ (low : v < 0xE000).
        let c = 0x1_0000 + (u - 0xD800) * 0x400 + (v - 0xDC00) in
        inl (c, rest, high_scalar c (omega arith) (omega arith), pair_units_of u v c rest refl high (from, omega arith)))
        (λ (above : 0xE000 ≤ v). inr (inr (high, λ low. let low_to = low.1 in absurd (omega arith))))
        (cases_lt v 0xE000))
        (cases_lt v 0xDC00)

pub AreUnits-first : (u : ℕ) (units : List ℕ) → AreUnits (u ∷ units) → u < 2 ^ 16
AreUnits-first u units all = all 0 0 (omega arith)

pub AreUnits-drop : (units : List ℕ) (n : ℕ) → AreUnits units → AreUnits (drop n units)
AreUnits-drop units n all k d within =
    rw get_or-drop (all (n + k) d (omega (arith, length-drop n units)))

pub rest_is_drop : (units : List ℕ) (c : ℕ) (rest : List ℕ) → units ≡ encode_utf16 c ++ rest
    → rest ≡ drop (length (encode_utf16 c)) units
rest_is_drop units c rest parts = sym (ap (drop (length (encode_utf16 c))) parts ∙ drop_at (encode_utf16 c) rest _ refl)

pub shorter_after : (fuel : ℕ) (units : List ℕ) (c : ℕ) (rest : List ℕ) → units ≡ encode_utf16 c ++ rest
    → length units ≤ suc fuel → length rest ≤ fuel
shorter_after fuel units c rest parts le = omega (arith, ap length parts, length-append (encode_utf16 c) rest, (length-encode_utf16 c).0)

lossy_within : (fuel : ℕ) (units : List ℕ) → length units ≤ fuel → AreUnits units
    → IsUtf16LossyText units (utf16_lossy_text units)
lossy_within fuel [] le all = subst (λ os. IsUtf16LossyText [] (map (λ o. unwrap_or o 0xFFFD) os))
    (sym utf16_chars-nil) refl
lossy_within zero (u ∷ units) le all = absurd (omega arith)
lossy_within (suc fuel) (u ∷ units) le all = ⊎_elim
    (λ p.
    let c = p.0 in
    let rest = p.1 in
    let later = lossy_within fuel rest (shorter_after fuel (u ∷ units) c rest p.3 le)
    (subst AreUnits (sym (rest_is_drop (u ∷ units) c rest p.3))
    (AreUnits-drop (u ∷ units) (length (encode_utf16 c)) all)) in
    let text_is : c ∷ utf16_lossy_text rest ≡ utf16_lossy_text (u ∷ units) =
    sym (ap (map (λ o. unwrap_or o 0xFFFD)) (ap utf16_chars p.3 ∙ chars_at_character c rest p.2)) in
    subst (IsUtf16LossyText (u ∷ units)) text_is (inl (rest, p.2, p.3, later)))
    (λ unpaired.
    let later = lossy_within fuel units (omega arith) (AreUnits-drop (u ∷ units) 1 all) in
    let text_is : replacement_character ∷ utf16_lossy_text units ≡ utf16_lossy_text (u ∷ units) =
    sym (ap (map (λ o. unwrap_or o 0xFFFD)) (chars_at_unpaired (u ∷ units) unpaired)) in
    subst (IsUtf16LossyText (u ∷ units)) text_is (inr (refl, unpaired, later)))
    (begins_or_unpaired u units (AreUnits-first u units all))

one_lossy : (units other text more : List ℕ) → units ≡ other → IsUtf16LossyText units text
    → IsUtf16LossyText other more → text ≡ more
one_lossy units other [] [] same is is_too = refl
one_lossy units other [] (d ∷ more) same is is_too = absurd (some_left other d more is_too (sym same ∙ is))
  where
    some_left : (units : List ℕ) (c : ℕ) (text : List ℕ) → IsUtf16LossyText units (c ∷ text) → units ≡ [] → ⊥
    some_left units c text is none = ⊎_elim
        (λ p. omega (arith, ap length (sym p.2 ∙ none), length-append (encode_utf16 c) p.0, (length-encode_utf16 c).0))
        (λ p. subst BeginsWithUnpairedSurrogate none p.1)
        is
one_lossy units other (c ∷ text) [] same is is_too = ⊎_elim
    (λ p. absurd (omega (
      arith,
      ap length (sym p.2 ∙ same ∙ is_too),
      length-append (encode_utf16 c) p.0,
      (length-encode_utf16 c).0,
    )))
    (λ p. absurd (subst BeginsWithUnpairedSurrogate (same ∙ is_too) p.1))
    is
one_lossy units other (c ∷ text) (d ∷ more) same is is_too = ⊎_elim
    (λ p. ⊎_elim
    (λ q.
    let both = encode_utf16_same c d p.0 q.0 p.1 q.1 (sym p.2 ∙ same ∙ q.2) in
    λ i. both.0 i ∷ one_lossy p.0 q.0 text more both.1 p.3 q.3 i)
    (λ q. absurd (unpaired_begins_none other c p.0 q.1 p.1 (sym same ∙ p.2)))
    is_too)
    (λ p. ⊎_elim
    (λ q. absurd (unpaired_begins_none units d q.0 p.1 q.1 (same ∙ q.2)))
    (λ q.
    let first : c ≡ d = p.0 ∙ sym q.0 in
    λ i. first i ∷ one_lossy (drop 1 units) (drop 1 other) text more (ap (drop 1) same) p.2 q.2 i)
    is_too)
    is

pub utf16_lossy_text_is : Utf16LossyTextIsUnique
utf16_lossy_text_is units text all =
    let std = lossy_within (length units) units (omega arith) all in (
      λ is. one_lossy units units text (utf16_lossy_text units) refl is std,
      λ same. subst (IsUtf16LossyText units) (sym same) std,
    )

-- valid units

pub unpaired_is_no_text : (units : List ℕ) → BeginsWithUnpairedSurrogate units → ¬ (IsUtf16 units)
unpaired_is_no_text units unpaired (text, is) = by_text text is
  where
    by_text : (text : List ℕ) → UnitsEncode units text → ⊥
    by_text [] is = subst BeginsWithUnpairedSurrogate (sym is.1) unpaired
    by_text (c ∷ text) is = unpaired_begins_none units c (flat_map encode_utf16 text) unpaired (and_parts _ _ is.0).0
        (sym is.1)

-- a step of validation, over the units from `at` on
pub from_at : (units : List ℕ) (at : ℕ) → take (length units - at) (drop at units) ≡ drop at units
from_at units at = take_all (length units - at) (drop at units) (omega (arith, length-drop at units))

-- the unit after the first, if there is one
pub unit_after : (units : List ℕ) (i : ℕ) (o : Option ℕ) → (i < length units → o ≡ Some (get_or units i 0))
    → (length units ≤ i → o ≡ None) → slice_get (drop i units) 0 ≡ o
unit_after [] zero o some none = sym (none (omega arith))
unit_after [] (suc i) o some none = sym (none (omega arith))
unit_after (u ∷ units) zero o some none = sym (some (omega arith))
unit_after (u ∷ units) (suc i) o some none = unit_after units i o (λ h. some (omega arith)) (λ h. none (omega arith))

-- the step at a place
pub step_in : (units : List ℕ) (at u : ℕ) (second o : Option ℕ) (n : ℕ) → at < length units → u ≡ get_or units at 0
    → slice_get (drop (at + 1) units) 0 ≡ second
    → ((rest : List ℕ) → slice_get rest 0 ≡ second → IsUtf16Step (u ∷ rest) o n) → IsUtf16Step (drop at units) o n
step_in units at u second o n within is known step =
    let parts : drop at units ≡ u ∷ drop (at + 1) units =
    rw add-one (drop-cons units at 0 within) ∙ ap (λ v. v ∷ drop (at + 1) units) (sym is) in
    subst (λ l. IsUtf16Step l o n) (sym parts) (step (drop (at + 1) units) known)

-- std's test for unpaired surrogates

abbrev is_unpaired : Option ℕ → Bool
is_unpaired o = not (is_some o)

has_none : (text rest : List ℕ) → all_scalars text ≡ true → utf16_chars (flat_map encode_utf16 text ++ rest)
    ≡ map (λ c. Some c) text ++ utf16_chars rest
has_none [] rest all = refl
has_none (c ∷ text) rest all =
    let both = and_parts _ _ all in
    ap utf16_chars (append_assoc (encode_utf16 c) (flat_map encode_utf16 text) rest)
    ∙ chars_at_character c (flat_map encode_utf16 text ++ rest) both.0
    ∙ ap (λ os. Some c ∷ os) (has_none text rest both.1)

none_unpaired : (text : List ℕ) → list_any is_unpaired (map (λ c. Some c) text ++ []) ≡ false
none_unpaired [] = refl
none_unpaired (c ∷ text) = none_unpaired text

paired_within : (fuel : ℕ) (units : List ℕ) → length units ≤ fuel → AreUnits units
    → has_unpaired_surrogate units ≡ false → IsUtf16 units
paired_within fuel [] le all paired = ([], (refl, refl))
paired_within zero (u ∷ units) le all paired = absurd (omega arith)
paired_within (suc fuel) (u ∷ units) le all paired = ⊎_elim
    (λ p.
    let c = p.0 in
    let rest = p.1 in
    let chars_are = ap utf16_chars p.3 ∙ chars_at_character c rest p.2 in
    let later = paired_within fuel rest (shorter_after fuel (u ∷ units) c rest p.3 le)
    (subst AreUnits (sym (rest_is_drop (u ∷ units) c rest p.3))
    (AreUnits-drop (u ∷ units) (length (encode_utf16 c)) all))
    (sym (ap (list_any is_unpaired) chars_are) ∙ paired) in
    (c ∷ later.0, (and_from _ _ p.2 later.1.0, ap (λ l. encode_utf16 c ++ l) later.1.1 ∙ sym p.3)))
    (λ unpaired. absurd (true≢false (sym (ap (list_any is_unpaired) (chars_at_unpaired (u ∷ units) unpaired))
    ∙ paired)))
    (begins_or_unpaired u units (AreUnits-first u units all))

pub paired_is : Utf16HasNoUnpairedSurrogate
paired_is units all = (
  λ (text, is). ap has_unpaired_surrogate (sym is.1 ∙ sym (append-nil (flat_map encode_utf16 text)))
      ∙ ap (list_any is_unpaired) (has_none text [] is.0 ∙ ap (λ os. map (λ c. Some c) text ++ os) utf16_chars-nil)
      ∙ none_unpaired text,
  paired_within (length units) units (omega arith) all,
)

-- a text's own units

own_text : (text : List ℕ) → map (λ o. unwrap_or o 0xFFFD) (map (λ c. Some c) text ++ []) ≡ text
own_text [] = refl
own_text (c ∷ text) = ap (λ l. c ∷ l) (own_text text)

pub utf16_lossy_text_of_text : Utf16LossyTextOfText
utf16_lossy_text_of_text units text is =
    ap utf16_lossy_text (sym is.1 ∙ sym (append-nil (flat_map encode_utf16 text)))
    ∙ ap (map (λ o. unwrap_or o 0xFFFD)) (has_none text [] is.0
    ∙ ap (λ os. map (λ c. Some c) text ++ os) utf16_chars-nil) ∙ own_text text

pub utf16_lossy_text-empty : (units : List ℕ) → length units ≡ 0 → utf16_lossy_text units ≡ []
utf16_lossy_text-empty [] none = utf16_lossy_text_of_text [] [] (refl, refl)
utf16_lossy_text-empty (u ∷ units) none = absurd (omega arith)
