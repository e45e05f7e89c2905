-- Parts of a text, and their removal.
use Rattle.std.proofs.Common.{◌≡◌, Some, ℕ, ◌+◌, ◌-◌, ◌*◌, ◌≤◌, List, [], ◌∷◌, ◌++◌, not, ◌&&◌, refl, ap, sym}
use Rattle.std.proofs.Common.{◌∙◌, subst, arith, length, append_assoc, append-nil, length-append, ⊎_elim}
use Rattle.std.proofs.lemmas.Bool.{cases_Bool, cond-true, cond-false, eq-eqb, eqb-true, and_parts, and_from}
use Rattle.std.proofs.lemmas.Str.{len_utf8_bounds}
use Rattle.std.specs.Prelude.{nat_eq}
use Rattle.std.specs.Char.{len_utf8}
use Rattle.compact_text.proofs.TextFacts.{text_facts}
use Rattle.compact_repr.specs.Text.{size}
use Rattle.compact_repr.specs.Cut.{IsBoundary, text_before, text_after, substring, replaced_text}
use Rattle.compact_repr.specs.Value.{PlacedText, placed_text, is_static_place, IsOwned}
use Rattle.compact_repr.specs.Capacity.{Growth, PlacedFor, owned}
use Rattle.compact_text.proofs.Texts.{size-append}
use Rattle.compact_text.proofs.CutLemmas.{text_before-text_after, size-text_before, boundary-from_size, size-replaced}
use Rattle.compact_text.proofs.SubstringLemmas.{substring-parts, parts-substring}
use Rattle.compact_repr.specs.declared.growth.Policy.{Ghosts}
use Rattle.compact_str.specs.declared.string.drain.Drain.{Drain}
use Rattle.compact_str.specs.Ranges.{AreRangeEnds}
use Rattle.compact_str.specs.Drain.{drain_rest, value_after_drain, range_text, without_range}

-- the ends of a span are boundaries
pub span-ends : (t : List ℕ) (i j : ℕ) → AreRangeEnds t i j → (i ≤ j) × IsBoundary t i × IsBoundary t j
span-ends t i j span = (span.0, boundary-from_size t i span.1, boundary-from_size t j span.2)

pub ends-span : (t : List ℕ) (i j : ℕ) → i ≤ j → IsBoundary t i → IsBoundary t j → AreRangeEnds t i j
ends-span t i j order first last = (order, size-text_before t i first, size-text_before t j last)

-- and the text is what is before, in and after it
span-parts : (t m : List ℕ) (i j : ℕ) → AreRangeEnds t i j → substring t i j ≡ m
    → (t ≡ text_before t i ++ m ++ text_after t j) × (size m ≡ j - i)
span-parts t m i j span e =
    let ends = span-ends t i j span in
    let cut = substring-parts t i j ends.1 ends.2 ends.0 in (
      text_before-text_after t i ∙ ap (λ (l : List ℕ). text_before t i ++ l) cut.0
          ∙ sym (append_assoc (text_before t i) (substring t i j) (text_after t j))
          ∙ ap (λ (l : List ℕ). text_before t i ++ l ++ text_after t j) e,
      ap size (sym e) ∙ cut.1,
    )

parts-span : (t a m b : List ℕ) (i j : ℕ) → t ≡ a ++ m ++ b → size a ≡ i → size a + size m ≡ j
    → AreRangeEnds t i j × (substring t i j ≡ m)
parts-span t a m b i j e first last =
    let three = parts-substring t a m b i j e first last in
    (ends-span t i j (omega (arith, first, last)) three.0 three.1, three.2)

-- a span without its first character
pub front-taken : (t r : List ℕ) (i j c : ℕ) → AreRangeEnds t i j → substring t i j ≡ c ∷ r
    → AreRangeEnds t (i + len_utf8 c) j × (substring t (i + len_utf8 c) j ≡ r)
front-taken t r i j c span e =
    let cut = span-parts t (c ∷ r) i j span e in
    let parts : t ≡ (text_before t i ++ c ∷ []) ++ r ++ text_after t j =
    cut.0 ∙ ap (λ (l : List ℕ). l ++ text_after t j) (sym (append_assoc (text_before t i) (c ∷ []) r)) in
    let front : size (text_before t i ++ c ∷ []) ≡ i + len_utf8 c = size-append (text_before t i) (c ∷ [])
    ∙ omega (arith, span.1) in
    parts-span t (text_before t i ++ c ∷ []) r (text_after t j) (i + len_utf8 c) j parts front
    (omega (arith, front, cut.1, span.0))

-- or its last
pub back-taken : (t r : List ℕ) (i j c : ℕ) → AreRangeEnds t i j → substring t i j ≡ r ++ c ∷ []
    → AreRangeEnds t i (i + size r) × (substring t i (i + size r) ≡ r) × (i + size r ≤ j)
back-taken t r i j c span e =
    let cut = span-parts t (r ++ c ∷ []) i j span e in
    let parts : t ≡ text_before t i ++ r ++ (c ∷ [] ++ text_after t j) =
    cut.0 ∙ ap (λ (l : List ℕ). l ++ text_after t j) (sym (append_assoc (text_before t i) r (c ∷ [])))
    ∙ append_assoc (text_before t i ++ r) (c ∷ []) (text_after t j) in
    let left = parts-span t (text_before t i) r (c ∷ [] ++ text_after t j) i (i + size r) parts span.1
    (omega (arith, span.1)) in
    (left.0, left.1, omega (arith, cut.1, size-append r (c ∷ []), span.0))

some-front : (r : List ℕ) (c : ℕ) → c ∷ r ≡ [] → ⊥
some-front r c e =
    let none : length (c ∷ r) ≡ length {A = ℕ} [] = ap length e in
    omega (arith, none)

some-back : (r : List ℕ) (c : ℕ) → r ++ c ∷ [] ≡ [] → ⊥
some-back r c e =
    let none : length (r ++ c ∷ []) ≡ length {A = ℕ} [] = ap length e in
    omega (arith, none, length-append r (c ∷ []))

module _ {P : Type 0} {G : Ghosts P} where
  -- what is left of a drain from whose rest the first character was read
  pub rest-front : (d : Drain P G) (s : List ℕ) (c width : ℕ) → s ≡ drain_rest d
      → (width ≡ len_utf8 c) × ((r : List ℕ) × (s ≡ c ∷ r))
      → AreRangeEnds d.value.now.text (d.front + width) d.back
      × (drain_rest d ≡ c ∷ range_text d.value.now.text d.len (d.front + width) d.back)
  rest-front d s c width is first =
      let t = d.value.now.text in
      ⊎_elim
      (λ yes.
      let taken = front-taken t first.1.0 d.front d.back c (d.rest (eqb-true _ _ yes))
      (sym (cond-true _ _ _ yes) ∙ sym is ∙ first.1.1) in
      rw first.0 (taken.0, sym is ∙ first.1.1 ∙ ap (λ (l : List ℕ). c ∷ l) (sym (cond-true _ _ _ yes ∙ taken.1))))
      (λ no. absurd (some-front first.1.0 c (sym first.1.1 ∙ is ∙ cond-false _ _ _ no)))
      (cases_Bool (nat_eq (size t) d.len))

  -- or the last
  pub rest-back : (d : Drain P G) (s : List ℕ) (c width : ℕ) → s ≡ drain_rest d
      → (s ≡ text_before s width ++ c ∷ []) × IsBoundary s width
      → AreRangeEnds d.value.now.text d.front (d.front + width)
      × (drain_rest d ≡ range_text d.value.now.text d.len d.front (d.front + width) ++ c ∷ [])
      × (d.front + width ≤ d.back)
  rest-back d s c width is last =
      let t = d.value.now.text in
      let r = text_before s width in
      let wide : size r ≡ width = size-text_before s width last.1 in
      ⊎_elim
      (λ yes.
      let taken = back-taken t r d.front d.back c (d.rest (eqb-true _ _ yes))
      (sym (cond-true _ _ _ yes) ∙ sym is ∙ last.0) in
      let left = subst (λ (n : ℕ). AreRangeEnds t d.front (d.front + n) × (substring t d.front (d.front + n) ≡ r)
      × (d.front + n ≤ d.back)) wide taken in
      (left.0, sym is ∙ last.0 ∙ ap (λ (l : List ℕ). l ++ c ∷ []) (sym (cond-true _ _ _ yes ∙ left.1)), left.2))
      (λ no. absurd (some-back r c (sym last.0 ∙ is ∙ cond-false _ _ _ no)))
      (cases_Bool (nat_eq (size t) d.len))

-- a removal keeps the placement
without_range-placement : (v : PlacedText) (len i j : ℕ) → (without_range v len i j).placement ≡ v.placement
without_range-placement v len i j =
    ⊎_elim
    (λ yes. ap (λ (w : PlacedText). w.placement) (cond-true _ _ _ yes))
    (λ no. ap (λ (w : PlacedText). w.placement) (cond-false _ _ _ no))
    (cases_Bool (not (is_static_place v.placement.place) && nat_eq (size v.text) len))

-- and one that keeps the length keeps the text, so that a span stays one
without_range-text : (v : PlacedText) (len i j : ℕ) → (size v.text ≡ len → AreRangeEnds v.text i j)
    → size (without_range v len i j).text ≡ len → (without_range v len i j).text ≡ v.text
without_range-text v len i j range same =
    ⊎_elim
    (λ yes.
    let is : without_range v len i j ≡ placed_text (replaced_text v.text i j []) v.placement = cond-true _ _ _ yes in
    let whole : size v.text ≡ len = eqb-true _ _ (and_parts _ _ yes).1 in
    let ends = span-ends v.text i j (range whole) in
    let sizes = size-replaced v.text [] i j ends.1 ends.2 ends.0 in
    let kept : size (replaced_text v.text i j []) ≡ len = subst (λ (w : PlacedText). size w.text ≡ len) is same in
    let empty : j ≡ i = omega (arith, sizes, kept, whole, ends.0) in
    ap (λ (w : PlacedText). w.text) is
    ∙ rw empty (ap (λ (l : List ℕ). l ++ text_after v.text i) (append-nil (text_before v.text i))
    ∙ sym (text_before-text_after v.text i)))
    (λ no. ap (λ (w : PlacedText). w.text) (cond-false _ _ _ no))
    (cases_Bool (not (is_static_place v.placement.place) && nat_eq (size v.text) len))

pub without_range-span : (v : PlacedText) (len i j front back : ℕ) → (size v.text ≡ len → AreRangeEnds v.text i j)
    → (size v.text ≡ len → AreRangeEnds v.text front back)
    → size (without_range v len i j).text ≡ len → AreRangeEnds (without_range v len i j).text front back
without_range-span v len i j front back range rest is =
    let same = without_range-text v len i j range is in
    subst (λ (t : List ℕ). AreRangeEnds t front back) (sym same) (rest (subst (λ (t : List ℕ). size t ≡ len) same is))

-- the drain of a value that was made owned first
module _ {P : Type 0} {G : Ghosts P} (v u : PlacedText) (i j : ℕ) (d : Drain P G) where
  pub drain-rest : u.text ≡ v.text → d.value.now ≡ u → d.len ≡ size u.text → d.front ≡ i → d.back ≡ j
      → drain_rest d ≡ substring v.text i j
  drain-rest same now len front back =
      rw (now, len, front, back) (cond-true _ _ [] (eq-eqb (size u.text) (size u.text) refl)
      ∙ ap (λ (t : List ℕ). substring t i j) same)

  pub drain-leaves : u.text ≡ v.text → IsOwned u → d.value.now ≡ u → d.len ≡ size u.text → d.start ≡ i → d.end ≡ j
      → (value_after_drain d).text ≡ replaced_text v.text i j []
  drain-leaves same own now len first last =
      rw (now, len, first, last) (
      ap (λ (w : PlacedText). w.text) (cond-true _ _ _ (and_from _ _ (ap not own)
      (eq-eqb (size u.text) (size u.text) refl)))
      ∙ ap (λ (t : List ℕ). replaced_text t i j []) same
      )

  pub drain-place : (g : Growth) → PlacedFor g v u owned → d.value.now ≡ u → PlacedFor g v (value_after_drain d) owned
  drain-place g placed now = rw now (placed ∙ ap Some (sym (without_range-placement u d.len d.start d.end)))

-- a character has at least one byte
pub length-least : (t : List ℕ) → length t ≤ size t
length-least [] = omega arith
length-least (c ∷ cs) = omega (arith, len_utf8_bounds c, length-least cs)

pub length-most : (t : List ℕ) → size t ≤ 4 * length t
length-most [] = omega arith
length-most (c ∷ cs) = omega (arith, len_utf8_bounds c, length-most cs)

pub ruleset drain_facts = (text_facts, span-ends)

pub ruleset owning_drain_facts = (text_facts, ends-span, drain-rest, drain-leaves, drain-place)

pub ruleset without_range_facts = (drain_facts, without_range-span)

pub ruleset count_facts = (text_facts, length-least, length-most)
