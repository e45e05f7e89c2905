-- Values placed for an edit.
use Rattle.std.proofs.Common.{◌≡◌, ℕ, ◌-◌, ◌≤◌, ◌<◌, List, ◌++◌, Some, true, false, nat_eq, refl, arith, append-nil}
use Rattle.std.proofs.lemmas.Grind.{common_steps}
use Rattle.compact_text.proofs.TextFacts.{text_facts}
use Rattle.compact_text.proofs.Texts.{empty_text}
use Rattle.compact_text.proofs.SubstringLemmas.{substring-parts}
use Rattle.compact_text.specs.Text.{size}
use Rattle.compact_text.specs.Cut.{IsBoundary, substring, replaced_text}
use Rattle.compact_repr.specs.Value.{PlacedText, IsOwned}
use Rattle.compact_repr.specs.Capacity.{Growth, Need, owned, room, room_to_append, room_to_replace, fits_in_place}
use Rattle.compact_repr.specs.Capacity.{PlacedFor, AllocatesFor}
use Rattle.compact_repr.specs.Calls.{edited, push_str, insert_str}

-- the parts of an edit
pub edited-text : (g : Growth) (v w : PlacedText) (need : Need) (t : List ℕ) → edited g v need t ≡ Some w → w.text ≡ t
edited-text g v w need t e = grind (arith, common_steps)

pub edited-place : (g : Growth) (v w : PlacedText) (need : Need) (t : List ℕ) → edited g v need t ≡ Some w
    → PlacedFor g v w need
edited-place g v w need t e = grind (arith, common_steps)

pub edited-from_parts : (g : Growth) (v w : PlacedText) (need : Need) (t : List ℕ) → w.text ≡ t → PlacedFor g v w need
    → edited g v need t ≡ Some w
edited-from_parts g v w need t e k = grind (arith, common_steps)

pub push_str-text : (g : Growth) (v w : PlacedText) (s : List ℕ) → push_str g v s ≡ Some w → w.text ≡ v.text ++ s
push_str-text g v w s e = edited-text g v w (room_to_append (size s)) (v.text ++ s) e

pub insert_str-text : (g : Growth) (v w : PlacedText) (p : ℕ) (s : List ℕ) → insert_str g v p s ≡ Some w
    → w.text ≡ replaced_text v.text p p s
insert_str-text g v w p s e = edited-text g v w (room (size s)) (replaced_text v.text p p s) e

-- what fits in place keeps the placement
pub append-in_place : (g : Growth) (v w : PlacedText) (n : ℕ) → fits_in_place v n ≡ true → w.placement ≡ v.placement
    → PlacedFor g v w (room_to_append n)
append-in_place g v w n fits e = grind (arith, common_steps)

pub replace-in_place : (g : Growth) (v w : PlacedText) (n m : ℕ) → fits_in_place v (m - n) ≡ true
    → w.placement ≡ v.placement → PlacedFor g v w (room_to_replace n m)
replace-in_place g v w n m fits e = grind (arith, common_steps)

pub insert-in_place : (g : Growth) (v w : PlacedText) (p n : ℕ) → fits_in_place v (n - (p - p)) ≡ true
    → w.placement ≡ v.placement → PlacedFor g v w (room n)
insert-in_place g v w p n fits e = grind (arith, common_steps)

pub owned-in_place : (g : Growth) (v w : PlacedText) → IsOwned v → w.placement ≡ v.placement → PlacedFor g v w owned
owned-in_place g v w own e = grind (arith, common_steps)

-- an empty text is appended
pub append-empty : (u t s : List ℕ) (n : ℕ) → u ≡ t → size s ≡ n → nat_eq n 0 ≡ true → u ≡ t ++ s
append-empty u t s n e long none = grind (arith, common_steps, empty_text, append-nil)

pub append-empty_part : (t : List ℕ) (i j : ℕ) → i ≤ j → IsBoundary t i → IsBoundary t j → nat_eq (j - i) 0 ≡ true
    → t ≡ t ++ substring t i j
append-empty_part t i j order first last none =
    append-empty t t (substring t i j) (j - i) refl (substring-parts t i j first last order).1 none

-- room for some bytes
pub append-nothing : (g : Growth) (v w : PlacedText) (n : ℕ) → nat_eq n 0 ≡ true → w ≡ v
    → PlacedFor g v w (room_to_append n)
append-nothing g v w n none e = grind (arith, common_steps)

pub append-some : (g : Growth) (v u w : PlacedText) (n : ℕ) → nat_eq n 0 ≡ false → PlacedFor g v u (room n)
    → w.placement ≡ u.placement → PlacedFor g v w (room_to_append n)
append-some g v u w n some e k = grind (arith, common_steps)

pub append-some_allocates : (v : PlacedText) (n : ℕ) → nat_eq n 0 ≡ false → AllocatesFor v (room n)
    → AllocatesFor v (room_to_append n)
append-some_allocates v n some e = grind (arith, common_steps)

-- room for a difference, or none
pub replace-more : (g : Growth) (v u w : PlacedText) (n m : ℕ) → n < m → PlacedFor g v u (room (m - n))
    → w.placement ≡ u.placement → PlacedFor g v w (room_to_replace n m)
replace-more g v u w n m more e k = grind (arith, common_steps)

pub replace-less : (g : Growth) (v u w : PlacedText) (n m : ℕ) → m ≤ n → PlacedFor g v u owned
    → w.placement ≡ u.placement → PlacedFor g v w (room_to_replace n m)
replace-less g v u w n m less e k = grind (arith, common_steps)

pub replace-more_allocates : (v : PlacedText) (n m : ℕ) → n < m → AllocatesFor v (room (m - n))
    → AllocatesFor v (room_to_replace n m)
replace-more_allocates v n m more e = grind (arith, common_steps)

pub replace-less_allocates : (v : PlacedText) (n m : ℕ) → m ≤ n → AllocatesFor v owned
    → AllocatesFor v (room_to_replace n m)
replace-less_allocates v n m less e = grind (arith, common_steps)

-- facts for edits that make room first
pub ruleset placed_facts = (
  text_facts,
  append-in_place,
  replace-in_place,
  insert-in_place,
  owned-in_place,
  append-empty,
  append-nothing,
  append-some,
  append-some_allocates,
  replace-more,
  replace-less,
  replace-more_allocates,
  replace-less_allocates,
)

pub ruleset part_facts = (placed_facts, append-empty_part)
