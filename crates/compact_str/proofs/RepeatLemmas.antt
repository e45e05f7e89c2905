-- Repetition.
use Rattle.std.proofs.Common.{◌≡◌, Some, ℕ, ◌+◌, ◌-◌, ◌*◌, ◌≤◌, List, [], ◌++◌, zero, suc, refl, ap, sym, ◌∙◌, arith}
use Rattle.std.proofs.Common.{append_assoc, append-nil}
use Rattle.std.proofs.Math.Nat.{mul-le-mul_left, mul-add}
use Rattle.std.proofs.lemmas.Grind.{common_steps}
use Rattle.std.specs.Prelude.{IsTrue, not, ◌&&◌, nat_le}
use Rattle.compact_repr.specs.Text.{size}
use Rattle.compact_repr.specs.Cut.{IsBoundary, substring}
use Rattle.compact_repr.specs.Value.{Placement, PlacedText, is_static_place}
use Rattle.compact_repr.specs.Capacity.{Growth, with_capacity_placement, fits_in_place, room_to_append, PlacedFor}
use Rattle.compact_repr.specs.Capacity.{AllocatesFor}
use Rattle.compact_repr.specs.Calls.{clone}
use Rattle.compact_str.specs.Edits.{repeated_text, IsPlacedAsRepeated}
use Rattle.compact_text.proofs.Texts.{size-append, empty_text}
use Rattle.compact_text.proofs.SubstringLemmas.{parts-substring}

pub repeated_text-add : (m n : ℕ) (t : List ℕ) → repeated_text (m + n) t ≡ repeated_text m t ++ repeated_text n t
repeated_text-add zero n t = let none : 0 + n ≡ n = omega arith in ap (λ (k : ℕ). repeated_text k t) none
repeated_text-add (suc m) n t =
    let more : suc m + n ≡ suc (m + n) = omega arith in
    ap (λ (k : ℕ). repeated_text k t) more ∙ ap (λ x. t ++ x) (repeated_text-add m n t)
    ∙ sym (append_assoc t (repeated_text m t) (repeated_text n t))

pub size-repeated_text : (n : ℕ) (t : List ℕ) → size (repeated_text n t) ≡ size t * n
size-repeated_text zero t = omega arith
size-repeated_text (suc n) t = size-append t (repeated_text n t) ∙ ap (λ (k : ℕ). size t + k) (size-repeated_text n t)
    ∙ omega arith

-- a capacity of n bytes has room for n bytes
pub with_capacity_placement-room : (g : Growth) (p : Placement) (m k : ℕ) → with_capacity_placement g m ≡ Some p
    → k ≤ m → IsTrue (not (is_static_place p.place) && nat_le k p.capacity)
with_capacity_placement-room g p m k e h = grind (arith, common_steps)

-- i copies of t have room for k more, which are copies of the first k
pub next_copies : (g : Growth) (v : PlacedText) (t : List ℕ) (bytes i k n : ℕ) → size t ≡ bytes
    → with_capacity_placement g (bytes * n) ≡ Some v.placement → v.text ≡ repeated_text i t → k ≤ i → i + k ≤ n
    → IsBoundary v.text (bytes * k) × IsTrue (fits_in_place v (bytes * k - 0))
    × (v.text ++ substring v.text 0 (bytes * k) ≡ repeated_text (i + k) t)
next_copies g v t bytes i k n wide e is h within =
    let split : i ≡ k + (i - k) = omega arith in
    let parts = is ∙ ap (λ (m : ℕ). repeated_text m t) split ∙ repeated_text-add k (i - k) t in
    let size_k : size (repeated_text k t) ≡ bytes * k = rw (← wide) (size-repeated_text k t) in
    let width : 0 + size (repeated_text k t) ≡ bytes * k = omega (arith, size_k) in
    let cut = parts-substring v.text [] (repeated_text k t) (repeated_text (i - k) t) 0 (bytes * k) parts refl width in
    let more : bytes * (i + k) ≤ bytes * n = mul-le-mul_left bytes within in
    let filled : size v.text ≡ bytes * i = ap size is ∙ rw (← wide) (size-repeated_text i t) in (
      cut.1,
      with_capacity_placement-room g v.placement (bytes * n) (size v.text + (bytes * k - 0)) e
          (omega (arith, more, filled, mul-add bytes i k)),
      rw (cut.2, is) (sym (repeated_text-add i k t)),
    )

-- an append that fits stays in place
pub append-stays : (g : Growth) (v w : PlacedText) (n : ℕ) → PlacedFor g v w (room_to_append n)
    → IsTrue (fits_in_place v n) → w.placement ≡ v.placement
append-stays g v w n e k = grind (arith, common_steps)

-- and never fails
pub append-never_allocates : (v : PlacedText) (n : ℕ) → IsTrue (fits_in_place v n) → AllocatesFor v (room_to_append n)
    → ⊥
append-never_allocates v n h k = grind (arith, common_steps)

pub repeated_text-none : (n : ℕ) (t : List ℕ) → size t * n ≡ 0 → repeated_text n t ≡ []
repeated_text-none n t e = empty_text (repeated_text n t) (size-repeated_text n t ∙ e)

pub repeated_text-one : (t : List ℕ) → repeated_text 1 t ≡ t
repeated_text-one t = append-nil t

-- once, and not empty, is a clone
pub placed-once : (g : Growth) (v w : PlacedText) (n : ℕ) → clone g v ≡ Some w → n ≡ 1 → (v.text ≡ [] → ⊥)
    → IsPlacedAsRepeated g v n w
placed-once g v w n e once some = grind (arith, common_steps, empty_text)
