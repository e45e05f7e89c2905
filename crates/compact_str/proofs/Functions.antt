-- For crates that call this one: the functions of `specs/Calls.antt` and `specs/Edits.antt`, from the clauses of the
-- calls. `functions` is named at the caller.
use Rattle.std.proofs.Common.{◌≡◌, Some, ℕ, ◌+◌, ◌-◌, List, [], ◌∷◌, ◌++◌, IsTrue, ap, sym, ◌∙◌, arith, append-nil}
use Rattle.std.proofs.lemmas.Grind.{common_steps}
use Rattle.std.specs.Char.{len_utf8}
use Rattle.compact_text.proofs.TextFacts.{text_facts}
use Rattle.compact_text.proofs.CutLemmas.{text_after-next}
use Rattle.compact_repr.specs.Text.{size}
use Rattle.compact_repr.specs.Cut.{IsBoundary, text_before, text_after, replaced_text}
use Rattle.compact_repr.specs.Value.{PlacedText, placed_text}
use Rattle.compact_repr.specs.Capacity.{Growth, owned, room, room_to_append, room_to_replace, kept_placement}
use Rattle.compact_repr.specs.Capacity.{reserve_allocates, PlacedFor, AllocatesFor, KeepsPlace}
use Rattle.compact_repr.specs.Calls.{push_str, push_str_allocates, insert_str, replace_range, replace_range_allocates}
use Rattle.compact_repr.specs.Calls.{truncate}
use Rattle.compact_str.specs.Edits.{Removes}
use Rattle.compact_str.proofs.PositionLemmas.{truncate-text}

pub push_str-from : (g : Growth) (v w : PlacedText) (s : List ℕ) (n : ℕ) → w.text ≡ v.text ++ s
    → PlacedFor g v w (room_to_append n) → size s ≡ n → push_str g v s ≡ Some w
push_str-from g v w s n text place long = grind (arith, common_steps)

pub push_str_allocates-from : (v : PlacedText) (s : List ℕ) (n : ℕ) → AllocatesFor v (room_to_append n) → size s ≡ n
    → IsTrue (push_str_allocates v s)
push_str_allocates-from v s n asks long = grind (arith, common_steps)

pub push-from : (g : Growth) (v w : PlacedText) (c : ℕ) → w.text ≡ v.text ++ c ∷ []
    → PlacedFor g v w (room_to_append (len_utf8 c)) → push_str g v (c ∷ []) ≡ Some w
push-from g v w c text place = push_str-from g v w (c ∷ []) (len_utf8 c) text place (omega arith)

pub push_allocates-from : (v : PlacedText) (c : ℕ) → AllocatesFor v (room_to_append (len_utf8 c))
    → IsTrue (push_str_allocates v (c ∷ []))
push_allocates-from v c asks = push_str_allocates-from v (c ∷ []) (len_utf8 c) asks (omega arith)

pub insert_str-from : (g : Growth) (v w : PlacedText) (p : ℕ) (s : List ℕ) (n : ℕ)
    → w.text ≡ replaced_text v.text p p s → PlacedFor g v w (room n) → size s ≡ n → insert_str g v p s ≡ Some w
insert_str-from g v w p s n text place long = grind (arith, common_steps)

pub insert_str_allocates-from : (v : PlacedText) (s : List ℕ) (n : ℕ) → AllocatesFor v (room n) → size s ≡ n
    → IsTrue (reserve_allocates v (size s))
insert_str_allocates-from v s n asks long = grind (arith, common_steps)

pub replace_range-from : (g : Growth) (v w : PlacedText) (i j : ℕ) (s : List ℕ) (n : ℕ)
    → w.text ≡ replaced_text v.text i j s → PlacedFor g v w (room_to_replace (j - i) n) → size s ≡ n
    → replace_range g v i j s ≡ Some w
replace_range-from g v w i j s n text place long = grind (arith, common_steps)

pub replace_range_allocates-from : (v : PlacedText) (i j : ℕ) (s : List ℕ) (n : ℕ)
    → AllocatesFor v (room_to_replace (j - i) n) → size s ≡ n → IsTrue (replace_range_allocates v i j s)
replace_range_allocates-from v i j s n asks long = grind (arith, common_steps)

pub removes-from : (g : Growth) (v w : PlacedText) (p c : ℕ) → IsBoundary v.text p
    → text_after v.text p ≡ c ∷ text_after w.text p → w.text ≡ replaced_text v.text p (p + len_utf8 c) []
    → PlacedFor g v w owned → Removes g v p c w
removes-from g v w p c h next text place =
    let rest = text_after w.text p in
    let cut : w.text ≡ text_before v.text p ++ rest =
    text ∙ ap (λ x. (text_before v.text p ++ []) ++ x) (text_after-next v.text rest p c h next)
    ∙ ap (λ x. x ++ rest) (append-nil (text_before v.text p)) in
    (rest, next, grind (arith, common_steps))

pub truncate-from : (v w : PlacedText) (p : ℕ) → w.text ≡ text_before v.text p → KeepsPlace v w → w ≡ truncate v p
truncate-from v w p text keeps =
    ap (placed_text w.text) keeps ∙ ap (λ t. placed_text t (kept_placement v t)) (text ∙ sym (truncate-text v p))

pub ruleset functions = (
  text_facts,
  push_str-from,
  push_str_allocates-from,
  push-from,
  push_allocates-from,
  insert_str-from,
  insert_str_allocates-from,
  replace_range-from,
  replace_range_allocates-from,
  removes-from,
  truncate-from,
)
