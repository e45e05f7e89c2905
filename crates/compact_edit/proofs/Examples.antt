-- Worked examples of steps, one or more for each edit. The values come from the Rust crate and from the Unicode
-- Standard.
use Rattle.std.proofs.Common.{◌≡◌, ◌∙◌, ap, inl, inr, lit≤, ◌-◌, ◌++◌, ℕ, ◌∷◌, [], List, Bool, true, false, Some, None}
use Rattle.std.proofs.Common.{replicate, refl, arith, lit<}
use Rattle.std.specs.Borrow.{Bor}
use Rattle.std.specs.declared.ops.Bound.TheVariants.{Included, Excluded}
use Rattle.std.specs.Char.{len_utf8}
use Rattle.std.proofs.lemmas.Bool.{cond-true, cond-false, le-leb, lt-leb}
use Rattle.std.proofs.lemmas.Str.{len_utf8_bounds}
use Rattle.compact_str.specs.Text.{size, text_of}
use Rattle.compact_str.specs.Cut.{IsBoundary, text_before}
use Rattle.compact_str.specs.Value.{PlacedText, placed_text}
use Rattle.compact_str.specs.Capacity.{Growth, inline_placement, heap_placement, static_placement}
use Rattle.compact_str.specs.declared.ReserveError.{ReserveError}
use Rattle.compact_str.specs.declared.Standard.{Standard}
use Rattle.compact_edit.specs.declared.edit.Edit.{Edit}
use Rattle.compact_edit.specs.declared.edit.Reply.{Reply}
use Rattle.compact_edit.specs.declared.edit.Edit.TheVariants.{Push, PushStr, Pop, Insert, InsertStr, Remove, Truncate}
use Rattle.compact_edit.specs.declared.edit.Edit.TheVariants.{Clear, SplitOff, ReplaceRange, Drain, Retain, Reserve}
use Rattle.compact_edit.specs.declared.edit.Edit.TheVariants.{ShrinkTo, ShrinkToFit, MakeLower, MakeUpper, Zeroize}
use Rattle.compact_edit.specs.declared.edit.Edit.TheVariants.{Repeat, CloneFrom}
use Rattle.compact_edit.specs.declared.edit.Reply.TheVariants.{Done, Char, Text, BadPosition, Refused}
use Rattle.compact_edit.specs.Steps.{Step}

-- at least 32 bytes, and a growth factor of 1.5
abbrev half_more : Growth
half_more = record { least = 32; numerator = 3; denominator = 2 }

-- n times `a`
abbrev sample : ℕ → List ℕ
sample n = replicate n 97

abbrev inline_text : List ℕ → PlacedText
inline_text t = placed_text t inline_placement

abbrev heap_sample : ℕ → ℕ → PlacedText
heap_sample n capacity = placed_text (sample n) (heap_placement capacity)

abbrev static_sample : ℕ → PlacedText
static_sample n = placed_text (sample n) (static_placement (sample n))

-- ä, of two bytes, and a musical clef, of four
abbrev dotted : ℕ
dotted = 0xE4

abbrev clef : ℕ
clef = 0x1D11E

abbrev mixed : PlacedText
mixed = inline_text (dotted ∷ 0x62 ∷ clef ∷ [])

abbrev two : PlacedText
two = inline_text (dotted ∷ clef ∷ [])

-- a step under that policy
abbrev Steps : PlacedText → Edit Standard → Reply Standard → PlacedText → Type 0
Steps v edit reply w = Step half_more v edit reply w

-- the text before a boundary has all bytes before it
size-text_before : (a b : List ℕ) (p : ℕ) → size a ≡ p → size (text_before (a ++ b) p) ≡ p
size-text_before [] [] p e = e
size-text_before [] (c ∷ cs) p e = let wide = len_utf8_bounds c in
    rw (cond-false _ _ _ (lt-leb (len_utf8 c) p (omega (arith, wide.0, e)))) e
size-text_before (c ∷ cs) b p e =
    let rest = size-text_before cs b (p - len_utf8 c) (omega (arith, e)) in
    rw (cond-true _ _ _ (le-leb (len_utf8 c) p (omega (arith, e)))) (omega (arith, e, rest))

not_boundary : (t : List ℕ) (p : ℕ) → (size (text_before t p) ≡ p → ⊥) → ¬ (IsBoundary t p)
not_boundary t p differs h = differs (ap (λ x. size (text_before x p)) h.2.parts
    ∙ size-text_before h.0 h.1 p h.2.position)

a_push_on_24_bytes_takes_36 : Steps (inline_text (sample 24)) (Push 97) Done (heap_sample 25 36)
a_push_on_24_bytes_takes_36 = (tt, (refl, refl))

an_append_of_25_bytes_takes_32 : (s : Bor (List ℕ)) → text_of s.now ≡ sample 25
    → Steps (inline_text []) (PushStr s) Done (heap_sample 25 32)
an_append_of_25_bytes_takes_32 s is = (tt, (refl, rw is refl))

an_empty_append_leaves_a_static_text : (s : Bor (List ℕ)) → text_of s.now ≡ []
    → Steps (static_sample 30) (PushStr s) Done (static_sample 30)
an_empty_append_leaves_a_static_text s is = (tt, (refl, rw is refl))

a_pop_returns_the_last_character : Steps two Pop (Char (Some clef)) (inline_text (dotted ∷ []))
a_pop_returns_the_last_character = (tt, (Some clef, refl, (dotted ∷ [], refl, refl)))

a_pop_of_an_empty_text_returns_none : Steps (inline_text []) Pop (Char None) (inline_text [])
a_pop_of_an_empty_text_returns_none = (tt, (None, refl, (refl, refl)))

an_insertion_inside_a_character_is_a_bad_position : Steps mixed (Insert 1 0x78) BadPosition mixed
an_insertion_inside_a_character_is_a_bad_position = (refl, not_boundary mixed.text 1 (λ e. omega (arith, e)))

a_character_is_inserted : Steps two (Insert 2 0x62) Done mixed
a_character_is_inserted = ((dotted ∷ [], clef ∷ [], record { parts = refl; position = refl }), (refl, refl))

an_empty_insertion_makes_a_static_text_its_own : (s : Bor (List ℕ)) → text_of s.now ≡ []
    → Steps (static_sample 30) (InsertStr 0 s) Done (heap_sample 30 45)
an_empty_insertion_makes_a_static_text_its_own s is = (
  ([], sample 30, record { parts = refl; position = refl }),
  (refl, rw is refl),
)

a_removal_returns_its_character : Steps mixed (Remove 2) (Char (Some 0x62)) two
a_removal_returns_its_character = (
  (lit< tt, (dotted ∷ [], 0x62 ∷ clef ∷ [], record { parts = refl; position = refl })),
  (0x62, refl, (clef ∷ [], refl, refl)),
)

a_removal_makes_a_static_text_its_own : Steps (static_sample 30) (Remove 0) (Char (Some 97)) (heap_sample 29 32)
a_removal_makes_a_static_text_its_own =
    ((lit< tt, ([], sample 30, record { parts = refl; position = refl })), (97, refl, (sample 29, refl, refl)))

a_removal_at_the_end_is_a_bad_position : Steps mixed (Remove 7) BadPosition mixed
a_removal_at_the_end_is_a_bad_position = (refl, λ legal. let within = legal.0 in omega (arith, within))

a_truncation_inside_a_character_is_a_bad_position : Steps two (Truncate 3) BadPosition two
a_truncation_inside_a_character_is_a_bad_position = (
  refl,
  λ legal. not_boundary two.text 3 (λ e. omega (arith, e))
      (legal (lit< tt)),
)

a_truncation_past_the_end_is_done : Steps two (Truncate 9) Done two
a_truncation_past_the_end_is_done = ((λ within. absurd (omega (arith, within))), (refl, refl))

a_static_text_is_split_in_place : Steps (static_sample 30) (SplitOff 3) (Text (static_sample 27)) (static_sample 3)
a_static_text_is_split_in_place = (
  (sample 3, sample 27, record { parts = refl; position = refl }),
  (static_sample 27, refl, record { leaves = refl; stays = refl }),
)

a_short_tail_is_inline : Steps (static_sample 30) (SplitOff 6) (Text (inline_text (sample 24))) (static_sample 6)
a_short_tail_is_inline = (
  (sample 6, sample 24, record { parts = refl; position = refl }),
  (inline_text (sample 24), refl, record { leaves = refl; stays = refl }),
)

an_empty_replacement_makes_a_static_text_its_own : (s : Bor (List ℕ)) → text_of s.now ≡ []
    → Steps (static_sample 30) (ReplaceRange (Included 0) (Excluded 0) s) Done (heap_sample 30 32)
an_empty_replacement_makes_a_static_text_its_own s is =
    let start : IsBoundary (sample 30) 0 = ([], sample 30, record { parts = refl; position = refl }) in
    (record { order = lit≤ tt; first = start; last = start }, (refl, rw is refl))

a_range_with_its_last_byte_included_is_replaced : (s : Bor (List ℕ)) → text_of s.now ≡ sample 2
    → Steps mixed (ReplaceRange (Included 2) (Included 2) s) Done (inline_text (dotted ∷ 97 ∷ 97 ∷ clef ∷ []))
a_range_with_its_last_byte_included_is_replaced s is =
    let first : IsBoundary mixed.text 2 = (dotted ∷ [], 0x62 ∷ clef ∷ [], record { parts = refl; position = refl }) in
    let last : IsBoundary mixed.text 3 = (dotted ∷ 0x62 ∷ [], clef ∷ [], record { parts = refl; position = refl }) in
    (record { order = lit≤ tt; first = first; last = last }, (refl, rw is refl))

a_drain_returns_its_range : Steps mixed (Drain (Included 2) (Excluded 3)) (Text (inline_text (0x62 ∷ []))) two
a_drain_returns_its_range =
    let first : IsBoundary mixed.text 2 = (dotted ∷ [], 0x62 ∷ clef ∷ [], record { parts = refl; position = refl }) in
    let last : IsBoundary mixed.text 3 = (dotted ∷ 0x62 ∷ [], clef ∷ [], record { parts = refl; position = refl }) in
    (record { order = lit≤ tt; first = first; last = last }, (inline_text (0x62 ∷ []), refl, refl, refl))

a_drain_of_nothing_makes_a_static_text_its_own : Steps (static_sample 30) (Drain (Included 0) (Excluded 0))
    (Text (inline_text [])) (heap_sample 30 32)
a_drain_of_nothing_makes_a_static_text_its_own =
    let start : IsBoundary (sample 30) 0 = ([], sample 30, record { parts = refl; position = refl }) in
    (record { order = lit≤ tt; first = start; last = start }, (inline_text [], refl, refl, refl))

a_character_with_no_flag_stays : (s : Bor (List Bool)) → s.now ≡ true ∷ false ∷ [] → Steps mixed (Retain s) Done two
a_character_with_no_flag_stays s is = (tt, (refl, rw is refl))

uppercase_makes_a_static_text_owned : Steps (static_sample 30) MakeUpper Done
    (placed_text (replicate 30 65) (heap_placement 32))
uppercase_makes_a_static_text_owned = (tt, (refl, refl))

a_character_past_ascii_stays : Steps (inline_text (dotted ∷ 65 ∷ [])) MakeLower Done (inline_text (dotted ∷ 97 ∷ []))
a_character_past_ascii_stays = (tt, (refl, refl))

zeroize_keeps_a_heap_capacity : Steps (heap_sample 30 32) Zeroize Done (heap_sample 0 32)
zeroize_keeps_a_heap_capacity = (tt, (refl, refl))

a_range_that_ends_before_its_start_is_a_bad_position : (s : Bor (List ℕ))
    → Steps mixed (ReplaceRange (Included 3) (Excluded 2) s) BadPosition mixed
a_range_that_ends_before_its_start_is_a_bad_position s = (
  refl,
  λ range. let order = range.order in
      omega (arith, order),
)

a_truncated_static_text_has_its_size_as_capacity : Steps (static_sample 30) (Truncate 20) Done (static_sample 20)
a_truncated_static_text_has_its_size_as_capacity = (
  (λ within. (
    sample 20,
    sample 10,
    record { parts = refl; position = refl },
  )),
  (refl, refl),
)

a_cleared_static_text_is_static : Steps (static_sample 30) Clear Done (static_sample 0)
a_cleared_static_text_is_static = (tt, (refl, refl))

a_cleared_heap_text_keeps_its_capacity : Steps (heap_sample 49 49) Clear Done (heap_sample 0 49)
a_cleared_heap_text_keeps_its_capacity = (tt, (refl, refl))

an_empty_reserve_makes_a_static_text_its_own : Steps (static_sample 30) (Reserve 0) Done (heap_sample 30 45)
an_empty_reserve_makes_a_static_text_its_own = (tt, (refl, refl))

room_past_any_memory_is_refused : (e : ReserveError) → Steps (inline_text (sample 1)) (Reserve 18446744073709551615)
    (Refused e) (inline_text (sample 1))
room_past_any_memory_is_refused e = (refl, tt, refl)

a_shrink_gives_room_back : Steps (heap_sample 0 100) (ShrinkTo 50) Done (heap_sample 0 50)
a_shrink_gives_room_back = (tt, (refl, inl refl))

a_refused_shrink_is_done_and_changes_nothing : Steps (heap_sample 0 100) (ShrinkTo 50) Done (heap_sample 0 100)
a_refused_shrink_is_done_and_changes_nothing = (tt, (refl, inr (refl, refl)))

a_shrink_to_28_bytes_keeps_32 : Steps (heap_sample 28 100) ShrinkToFit Done (heap_sample 28 32)
a_shrink_to_28_bytes_keeps_32 = (tt, (refl, inl refl))

thirteen_copies_of_two_bytes_take_32 : Steps (inline_text (dotted ∷ [])) (Repeat 13)
    (Text (placed_text (replicate 13 dotted) (heap_placement 32))) (inline_text (dotted ∷ []))
thirteen_copies_of_two_bytes_take_32 = (tt, (placed_text (replicate 13 dotted) (heap_placement 32), refl, refl, refl))

a_clone_goes_into_a_buffer_with_room : (source : Bor PlacedText) → source.now ≡ heap_sample 30 32
    → Steps (heap_sample 0 100) (CloneFrom source) Done (heap_sample 30 100)
a_clone_goes_into_a_buffer_with_room source is = (tt, (refl, rw is refl))
