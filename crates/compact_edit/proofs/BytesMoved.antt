-- The bytes moved are paid for by the text, and by the room in its buffer.
use Rattle.std.proofs.Common.{◌≡◌, ◌⊎◌, ⊎_elim, ℕ, ◌+◌, ◌-◌, ◌*◌, ◌/◌, ◌^◌, ◌<◌, ◌≤◌, List, Some, true, false, refl, ap}
use Rattle.std.proofs.Common.{subst, lit≤, arith, max}
use Rattle.std.proofs.Math.Nat.{mul-le-mul_left, mul-le-mul_right}
use Rattle.std.proofs.lemmas.Grind.{common_steps}
use Rattle.compact_str.proofs.ForCallers.{size-append}
use Rattle.compact_str.specs.Text.{size}
use Rattle.compact_str.specs.Value.{Place, inline, heap, static, is_static_place, Placement, PlacedText}
use Rattle.compact_str.specs.Capacity.{Growth, IsLawful, inline_placement, heap_placement, grown_capacity}
use Rattle.compact_str.specs.Words.{MAX_CAPACITY}
use Rattle.compact_str.specs.Calls.{push_str}
use Rattle.compact_edit.specs.Pushes.{same_place, bytes_moved_by_step}

-- the invariant after m bytes were moved for a text of l bytes
pub record IsPaid (g : Growth) (p : Placement) (l m : ℕ) : Type 0 where
  pub owned : is_static_place p.place ≡ false
  pub fits : l ≤ p.capacity
  pub above : 24 ≤ p.capacity
  pub below : p.capacity ≤ MAX_CAPACITY
  pub capacity : p.capacity ≤ max g.least (g.numerator * l / g.denominator)
  pub by_text : (g.numerator - g.denominator) * m ≤ (g.numerator + g.denominator) * l
  pub by_room : (g.numerator - g.denominator) * m ≤ g.denominator * (p.capacity + 1 + l)

-- a push keeps the placement, or makes a larger buffer
push_str-placement : (g : Growth) (v w : PlacedText) (s : List ℕ) → is_static_place v.placement.place ≡ false
    → 24 ≤ v.placement.capacity → size v.text ≤ v.placement.capacity
    → push_str g v s ≡ Some w
    → ((w.placement ≡ v.placement) × (size w.text ≡ size v.text + size s)
    × (size v.text + size s ≤ v.placement.capacity))
    ⊎ ((w.placement ≡ heap_placement (grown_capacity g v (size s))) × (size w.text ≡ size v.text + size s)
    × (v.placement.capacity < size v.text + size s) × (grown_capacity g v (size s) ≤ MAX_CAPACITY))
push_str-placement g v w s owned above fits e = grind (arith, common_steps, size-append)

-- the arithmetic: d is the numerator minus the denominator q, and n more bytes do not fit the capacity c
grown_capacity-text : (d q c l n m : ℕ) → c < l + n → d * m ≤ q * (c + 1 + l) → d * (m + l) ≤ (d + q + q) * (l + n)
grown_capacity-text d q c l n m more paid =
    let k : q * (c + 1) ≤ q * (l + n) = mul-le-mul_left q (omega (arith, more)) in
    omega (arith, k, paid)

grown_capacity-room : (d q c b l n m : ℕ) → c < l + n → (d + q) * l ≤ q * (b + 1) → d * m ≤ q * (c + 1 + l)
    → d * (m + l) ≤ q * (b + 1 + (l + n))
grown_capacity-room d q c b l n m more room paid =
    let k : q * (c + 1) ≤ q * (l + n) = mul-le-mul_left q (omega (arith, more)) in
    omega (arith, k, room, paid)

quotient-room : (q x b : ℕ) → 1 ≤ q → x / q ≤ b → x ≤ q * (b + 1)
quotient-room q x b pos h = grind arith

quotient-more : (p q l n : ℕ) → 1 ≤ q → p * l / q ≤ p * (l + n) / q
quotient-more p q l n pos = grind arith

quotient-above : (p q l : ℕ) → 1 ≤ q → q < p → l ≤ p * l / q
quotient-above p q l pos grows = grind arith

pub paid-start : (g : Growth) → IsLawful g → IsPaid g inline_placement 0 0
paid-start g law = record {
  owned = refl;
  fits = omega arith;
  above = lit≤ tt;
  below = lit≤ tt;
  capacity = omega (arith, law.above_inline);
  by_text = omega arith;
  by_room = omega arith;
}

-- n more bytes that fit
paid-kept : (g : Growth) (p : Placement) (l n m : ℕ) → IsLawful g → IsPaid g p l m → l + n ≤ p.capacity
    → IsPaid g p (l + n) m
paid-kept g p l n m law paid fits = record {
  owned = paid.owned;
  fits = fits;
  above = paid.above;
  below = paid.below;
  capacity = let k = quotient-more g.numerator g.denominator l n law.divides in omega (arith, k, paid.capacity);
  by_text = let k = paid.by_text in omega (arith, k);
  by_room = let k = paid.by_room in omega (arith, k);
}

-- n more bytes that do not fit: l bytes are moved into a buffer of b bytes
paid-grown_capacity : (g : Growth) (p : Placement) (l n m b : ℕ) → IsLawful g → IsPaid g p l m → p.capacity < l + n
    → b ≡ max g.least (max (l + n) (g.numerator * l / g.denominator)) → b ≤ MAX_CAPACITY
    → IsPaid g (heap_placement b) (l + n) (m + l)
paid-grown_capacity g p l n m b law paid more is below =
    let d = g.numerator - g.denominator in
    let q = g.denominator in
    let whole : g.numerator ≡ d + q = omega (arith, law.grows) in
    let room : (d + q) * l ≤ q * (b + 1) = subst (λ (x : ℕ). x * l ≤ q * (b + 1)) whole
    (quotient-room q (g.numerator * l) b law.divides (omega (arith, is))) in
    let text : d * (m + l) ≤ (d + q + q) * (l + n) = grown_capacity-text d q p.capacity l n m more paid.by_room in
    record {
      owned = refl;
      fits = omega (arith, is);
      above = omega (arith, is, law.above_inline);
      below = below;
      capacity =
          let k = quotient-more g.numerator q l n law.divides in
          let j = quotient-above g.numerator q (l + n) law.divides law.grows in
          omega (arith, is, k, j);
      by_text = subst (λ (x : ℕ). d * (m + l) ≤ (x + q) * (l + n)) (omega (arith, whole)) text;
      by_room = grown_capacity-room d q p.capacity b l n m more room paid.by_room;
    }

same_place-refl : (p : Place) → same_place p p ≡ true
same_place-refl inline = refl
same_place-refl heap = refl
same_place-refl static = refl

pub bytes_moved_by_step-kept : (v w : PlacedText) → w.placement ≡ v.placement → bytes_moved_by_step v w ≡ 0
bytes_moved_by_step-kept v w e = grind (arith, common_steps, same_place-refl)

bytes_moved_by_step-grown_capacity : (v w : PlacedText) → v.placement.capacity < w.placement.capacity
    → bytes_moved_by_step v w ≡ size v.text
bytes_moved_by_step-grown_capacity v w h = grind (arith, common_steps)

pub paid-push : (g : Growth) (v w : PlacedText) (s : List ℕ) (b m n : ℕ) → IsLawful g
    → IsPaid g v.placement (size v.text) m → push_str g v s ≡ Some w → b ≡ bytes_moved_by_step v w → n ≡ m + b
    → IsPaid g w.placement (size w.text) n
paid-push g v w s b m n law paid e bytes is =
    ⊎_elim
    (λ k.
    let same : n ≡ m = omega (arith, is, bytes, bytes_moved_by_step-kept v w k.0) in
    rw (k.0, k.1, same) (paid-kept g v.placement (size v.text) (size s) m law paid k.2))
    (λ k.
    let c : w.placement.capacity ≡ grown_capacity g v (size s) = ap (λ (p : Placement). p.capacity) k.0 in
    let more : n ≡ m + size v.text = omega (
      arith,
      is,
      bytes,
      bytes_moved_by_step-grown_capacity v w (omega (arith, c, k.2)),
    ) in
    rw (k.0, k.1, more) (paid-grown_capacity g v.placement (size v.text) (size s) m (grown_capacity g v (size s)) law
    paid k.2 refl k.3))
    (push_str-placement g v w s paid.owned paid.above paid.fits e)

-- the count fits 64 bits
pub paid-fits : (g : Growth) (v w : PlacedText) (m n : ℕ) → IsLawful g → IsPaid g v.placement (size v.text) m
    → n ≡ bytes_moved_by_step v w → m + n < 2 ^ 64
paid-fits g v w m n law paid is =
    let one : 1 * m ≤ (g.numerator - g.denominator) * m = mul-le-mul_right m (omega (arith, law.grows)) in
    let most : (g.numerator + g.denominator) * size v.text ≤ 255 * size v.text =
    mul-le-mul_right (size v.text) law.small in
    let bytes : bytes_moved_by_step v w ≤ size v.text = grind (arith, common_steps) in
    omega (arith, one, most, bytes, is, paid.by_text, paid.fits, paid.below)

pub paid-same : (g : Growth) (v w : PlacedText) (m n : ℕ) → IsPaid g v.placement (size v.text) m → w ≡ v → n ≡ m
    → IsPaid g w.placement (size w.text) n
paid-same g v w m n paid e is = rw (e, is) paid
