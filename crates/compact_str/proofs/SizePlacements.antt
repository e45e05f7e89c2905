-- A value that is collected by appends.
use Rattle.std.proofs.Common.{◌≡◌, true, ℕ, ◌+◌, ◌<◌, ◌≤◌, List, [], ◌++◌, refl, ap, sym, ◌∙◌, arith, inl, inr}
use Rattle.std.proofs.lemmas.Grind.{common_steps}
use Rattle.std.proofs.lemmas.Bool.{cases_lt}
use Rattle.compact_repr.specs.Text.{size}
use Rattle.compact_repr.specs.Value.{Place, PlacedText, is_heap_place, inline, heap, static}
use Rattle.compact_repr.specs.Capacity.{Growth, inline_placement, room_to_append, PlacedFor}
use Rattle.compact_str.specs.Room.{IsPlacedBySize}
use Rattle.compact_text.proofs.Texts.{size-append}

short-append : (g : Growth) (v w : PlacedText) (n : ℕ) → v.placement ≡ inline_placement
    → PlacedFor g v w (room_to_append n) → size v.text + n ≤ 24 → w.placement ≡ inline_placement
short-append g v w n p e h = grind (arith, common_steps)

grown-append : (g : Growth) (v w : PlacedText) (n : ℕ) → v.placement ≡ inline_placement
    → PlacedFor g v w (room_to_append n) → size v.text ≤ 24 → 24 < size v.text + n
    → (w.placement.place ≡ heap) × (size v.text + n ≤ w.placement.capacity)
grown-append g v w n p e k h = grind (arith, common_steps)

heap-append : (g : Growth) (v w : PlacedText) (n : ℕ) → v.placement.place ≡ heap → size v.text ≤ v.placement.capacity
    → PlacedFor g v w (room_to_append n) → 24 < size v.text
    → (w.placement.place ≡ heap) × (size v.text + n ≤ w.placement.capacity)
heap-append g v w n p c e k = grind (arith, common_steps)

-- an append keeps a value placed by its size
pub by_size-append : (g : Growth) (v w : PlacedText) (s : List ℕ) (n : ℕ) → IsPlacedBySize v → w.text ≡ v.text ++ s
    → size s ≡ n → PlacedFor g v w (room_to_append n) → IsPlacedBySize w
by_size-append g v w s n f t k e =
    let long : size w.text ≡ size v.text + n = ap size t ∙ size-append v.text s ∙ ap (λ (m : ℕ). size v.text + m) k in
    record {
      short = λ h. short-append g v w n (f.short (omega (arith, long, h))) e (omega (arith, long, h));
      long = λ h. elim (cases_lt 24 (size v.text)) [
        | inr k ↦ let r = grown-append g v w n (f.short k) e k (omega (arith, long, h)) in
            (r.0, omega (arith, long, r.1))
        | inl k ↦ let p = f.long k in let r = heap-append g v w n p.0 p.1 e k in (r.0, omega (arith, long, r.1))
      ];
    }

heap-place : (p : Place) → is_heap_place p ≡ true → p ≡ heap
heap-place heap e = refl
heap-place inline e = grind arith
heap-place static e = grind arith

-- an empty value takes the buffer of a text, of the same capacity
pub append-moved : (g : Growth) (v w : PlacedText) (n : ℕ) → v.text ≡ [] → is_heap_place v.placement.place ≡ true
    → is_heap_place w.placement.place ≡ true → v.placement.capacity ≡ w.placement.capacity → size w.text ≡ n
    → IsPlacedBySize w → PlacedFor g v w (room_to_append n)
append-moved g v w n t p q c s f =
    let a : v.placement.place ≡ heap = heap-place v.placement.place p in
    let b : w.placement.place ≡ heap = heap-place w.placement.place q in
    elim (cases_lt 24 (size w.text)) [
      | inl k ↦ let within = (f.long k).1 in
          let same : w.placement ≡ v.placement = λ i. record { place = (b ∙ sym a) i; capacity = (sym c) i } in
          let none : size v.text ≡ 0 = ap size t in
          grind (arith, common_steps)
      | inr k ↦ let short : w.placement.place ≡ inline = ap (λ p. p.place) (f.short k) in
          grind (arith, common_steps)
    ]
