-- A value that is collected stays placed by its size.
use Rattle.std.proofs.Common.{append-nil, ◌%◌, ◌≡◌, ℕ, ◌+◌, ◌<◌, ◌≤◌, List, [], ◌∷◌, ◌++◌, length, false, refl, subst}
use Rattle.std.proofs.Common.{sym, ap, ◌∙◌, arith, append_assoc, inl, inr}
use Rattle.std.proofs.lemmas.Grind.{common_steps}
use Rattle.std.proofs.lemmas.Bool.{cases_lt, true≢false}
use Rattle.std.specs.Prelude.{Result, Ok, Err, IsErr}
use Rattle.std.specs.Str.{chars, IsUtf8}
use Rattle.std.proofs.lemmas.Str.{encodes-chars, scalars-chars}
use Rattle.compact_text.proofs.TextFacts.{text_facts}
use Rattle.compact_repr.specs.Text.{size, text_of}
use Rattle.compact_repr.specs.Value.{PlacedText, placed_text, heap, is_heap_place}
use Rattle.compact_repr.specs.Capacity.{Growth, inline_placement, from_string_placement, IsPlacedAsNew, PlacedFor, room}
use Rattle.compact_repr.specs.Capacity.{room_to_append}
use Rattle.compact_text.proofs.Texts.{size-append, size-text_of}
use Rattle.compact_text.specs.Text.{replacement_character}
use Rattle.compact_codec.specs.declared.utf16_bytes.ByteOrder.{ByteOrder}
use Rattle.compact_codec.specs.Utf16Text.{utf16_lossy_text}
use Rattle.compact_codec.specs.Utf16Bytes.{units_of, odd_byte_text, utf16_bytes_lossy_text}
use Rattle.compact_codec.proofs.Utf16BytesLemmas.{bytes_text, odd_bytes_text}
use Rattle.compact_codec.specs.Utf8Text.{BytesEncode, replacement_text}
use Rattle.compact_codec.proofs.Utf8TextLemmas.{replacement_text-some}
use Rattle.compact_str.specs.Room.{IsPlacedBySize}
use Rattle.compact_str.specs.Decoding.{MakesText}
use Rattle.compact_str.proofs.SizePlacements.{by_size-append}

-- a text of more than 24 bytes on the heap
heap-by_size : (v : PlacedText) → 24 < size v.text → v.placement.place ≡ heap → size v.text ≤ v.placement.capacity
    → IsPlacedBySize v
heap-by_size v more place fits = record { short = λ h. absurd (omega (arith, more, h)); long = λ _. (place, fits) }

-- reserving past 24 bytes moves to the heap
reserve-heap : (g : Growth) (v u : PlacedText) (n : ℕ) → v.placement ≡ inline_placement → 24 < size v.text + n
    → PlacedFor g v u (room n) → u.placement.place ≡ heap
reserve-heap g v u n p more e = grind (arith, common_steps)

on_heap-inline_placement : (v : PlacedText) → IsPlacedBySize v → is_heap_place v.placement.place ≡ false
    → (size v.text ≤ 24) × (v.placement ≡ inline_placement)
on_heap-inline_placement v f h =
    elim (cases_lt 24 (size v.text)) [
      | inr k ↦ (k, f.short k)
      | inl k ↦ absurd (true≢false (ap is_heap_place (sym (f.long k).0) ∙ h))
    ]

grown-heap : (g : Growth) (u w : PlacedText) (n : ℕ) → u.placement.place ≡ heap → 24 < size u.text + n → 0 < n
    → PlacedFor g u w (room_to_append n)
    → (w.placement.place ≡ heap) × (size u.text + n ≤ w.placement.capacity)
grown-heap g u w n h more some e = grind (arith, common_steps)

pub reserve-by_size : (g : Growth) (v u w : PlacedText) (s : List ℕ) (n m : ℕ) → IsPlacedBySize v
    → is_heap_place v.placement.place ≡ false → 24 < size v.text + n → size s ≡ n → n ≤ m
    → u.text ≡ v.text → PlacedFor g v u (room m) → w.text ≡ u.text ++ s → PlacedFor g u w (room_to_append n)
    → IsPlacedBySize w
reserve-by_size g v u w s n m f h more k enough same e t a =
    let is = on_heap-inline_placement v f h in
    let place = reserve-heap g v u m is.1 (omega (arith, more, enough)) e in
    let old : size u.text ≡ size v.text = ap size same in
    let stands = grown-heap g u w n place (omega (arith, old, more)) (omega (arith, more, is.0)) a in
    let long : size w.text ≡ size u.text + n = ap size t ∙ size-append u.text s ∙ ap (λ (k : ℕ). size u.text + k) k in
    heap-by_size w (omega (arith, long, old, more)) stands.0 (omega (arith, long, stands.1))

pub ruleset by_size_facts = (text_facts, by_size-append, reserve-by_size)

-- a new value
new-short : (g : Growth) (v : PlacedText) → IsPlacedAsNew g v → size v.text ≤ 24 → v.placement ≡ inline_placement
new-short g v e h = grind (arith, common_steps)

new-long : (g : Growth) (v : PlacedText) → IsPlacedAsNew g v → 24 < size v.text
    → (v.placement.place ≡ heap) × (size v.text ≤ v.placement.capacity)
new-long g v e h = grind (arith, common_steps)

pub new-by_size : (g : Growth) (v : PlacedText) → IsPlacedAsNew g v → IsPlacedBySize v
new-by_size g v e = record { short = new-short g v e; long = new-long g v e }

pub ruleset new_facts = (text_facts, new-by_size)

-- valid bytes encode what they decode to
pub spelled-encoded : (bytes t : List ℕ) → IsUtf8 bytes → t ≡ text_of bytes → BytesEncode bytes t
spelled-encoded bytes t is e = subst (BytesEncode bytes) (sym e) (scalars-chars bytes is, encodes-chars bytes is)

pub ruleset strict_facts = (text_facts, spelled-encoded)

-- if a part allocates, so does the whole text
pub part-allocates : (t a p rest : List ℕ) (n : ℕ) → a ++ (p ++ rest) ≡ t → n ≡ size p → 24 < size a + n → 24 < size t
part-allocates t a p rest n e k more =
    let long : size t ≡ size a + (size p + size rest) = ap size (sym e) ∙ size-append a (p ++ rest)
    ∙ ap (λ (n : ℕ). size a + n) (size-append p rest) in
    omega (arith, long, k, more)

-- up to 24 bytes nothing fails
pub refused-by_size : {E : Type 0} (t : List ℕ) (r : Result PlacedText E) → IsErr r → 24 < size t → MakesText t r
refused-by_size t (Ok _) h past = absurd (true≢false (sym h))
refused-by_size t (Err _) h past = record {
  text = tt;
  place = tt;
  succeeds = λ k. absurd (omega (arith, k, past));
  allocates = past;
}

-- so if a part fails to allocate, the whole may
pub part-refused : {E : Type 0} (t a rest bytes : List ℕ) (r : Result PlacedText E) → IsErr r
    → a ++ (text_of bytes ++ rest) ≡ t → IsUtf8 bytes
    → 24 < size a + length bytes → MakesText t r
part-refused t a rest bytes r h e is more = refused-by_size t r h
    (part-allocates t a (text_of bytes) rest (length bytes) e (sym (size-text_of bytes is)) more)

pub ruleset decoded_part_facts = (text_facts, part-allocates)

-- pairs of bytes, and U+FFFD for an odd last byte
pub bytes_refused : {E : Type 0} (order : ByteOrder) (bytes : List ℕ) (r : Result PlacedText E) → IsErr r
    → 24 < size (utf16_lossy_text (units_of order bytes)) → MakesText (utf16_bytes_lossy_text order bytes) r
bytes_refused order bytes r h more =
    refused-by_size _ r h (part-allocates _ [] (utf16_lossy_text (units_of order bytes)) (odd_byte_text bytes) _
    (sym (bytes_text order bytes)) refl (omega (arith, more)))

mark-text : text_of (0xEF ∷ 0xBF ∷ 0xBD ∷ []) ≡ replacement_character ∷ []
unfolding chars
mark-text = refl

odd_byte_made : (order : ByteOrder) (bytes a : List ℕ) → a ≡ utf16_lossy_text (units_of order bytes)
    → (length bytes % 2 ≡ 0 → ⊥)
    → a ++ text_of (0xEF ∷ 0xBF ∷ 0xBD ∷ []) ≡ utf16_bytes_lossy_text order bytes
odd_byte_made order bytes a e odd = (λ i. e i ++ mark-text i) ∙ sym (odd_bytes_text order bytes odd)

pub odd_byte_refused : {E : Type 0} (order : ByteOrder) (bytes a : List ℕ) (r : Result PlacedText E) → IsErr r
    → a ≡ utf16_lossy_text (units_of order bytes) → (length bytes % 2 ≡ 0 → ⊥) → 24 < size a + 3
    → MakesText (utf16_bytes_lossy_text order bytes) r
unfolding lib.Utf8.encode
odd_byte_refused order bytes a r h e odd more =
    let mark = 0xEF ∷ 0xBF ∷ 0xBD ∷ [] in
    part-refused _ a [] mark r h (ap (λ t. a ++ t) (append-nil (text_of mark)) ∙ odd_byte_made order bytes a e odd)
    (0xFFFD ∷ [], (refl, refl)) more

pub odd_byte_read : (order : ByteOrder) (bytes a new : List ℕ) → a ≡ utf16_lossy_text (units_of order bytes)
    → (length bytes % 2 ≡ 0 → ⊥)
    → new ≡ a ++ text_of (0xEF ∷ 0xBF ∷ 0xBD ∷ []) → new ≡ utf16_bytes_lossy_text order bytes
odd_byte_read order bytes a new e odd n = n ∙ odd_byte_made order bytes a e odd

-- a valid prefix and U+FFFD for the invalid sequence after it were appended
pub chunk-read : (whole old half new front invalid rest more : List ℕ)
    → old ++ (front ++ (replacement_text invalid ++ rest)) ≡ whole → 0 < length invalid
    → rest ≡ more → half ≡ old ++ front → new ≡ half ++ text_of (0xEF ∷ 0xBF ∷ 0xBD ∷ []) → new ++ more ≡ whole
chunk-read whole old half new front invalid rest more e some r h n =
    let marked : replacement_text invalid ≡ replacement_character ∷ [] = replacement_text-some invalid some in
    let read : new ≡ (old ++ front) ++ (replacement_character ∷ []) = n ∙ rw (h, mark-text) refl in
    rw (read, sym r) (append_assoc (old ++ front) (replacement_character ∷ []) rest
    ∙ append_assoc old front (replacement_character ∷ rest))
    ∙ ap (λ (t : List ℕ). old ++ (front ++ (t ++ rest))) (sym marked) ∙ e

-- a value from a `String`
from_string_placement-short : (t : List ℕ) (c : ℕ) → size t ≤ 24 → from_string_placement t c ≡ inline_placement
from_string_placement-short t c h = grind (arith, common_steps)

from_string_placement-long : (t : List ℕ) (c : ℕ) → size t ≤ c → 24 < size t
    → ((from_string_placement t c).place ≡ heap) × (size t ≤ (from_string_placement t c).capacity)
from_string_placement-long t c fits h = grind (arith, common_steps)

pub from_string_placement-by_size : (t : List ℕ) (c : ℕ) → size t ≤ c
    → IsPlacedBySize (placed_text t (from_string_placement t c))
from_string_placement-by_size t c fits = record {
  short = from_string_placement-short t c;
  long =
      from_string_placement-long t c fits;
}

pub ruleset buf_facts = (text_facts, spelled-encoded, new-by_size, from_string_placement-by_size)
