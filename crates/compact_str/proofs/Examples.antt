-- Worked examples of the definitions. The numbers come from the Rust crate and the Unicode Standard.
use Rattle.std.specs.Prelude.{◌≡◌, ℕ, ◌*◌, List, [], ◌∷◌, ◌++◌, replicate, Some, None, refl, true, false}
use Rattle.std.proofs.Common.{arith}
use Rattle.std.specs.declared.ops.Bound.TheVariants.{Included, Excluded, Unbounded}
use Rattle.compact_repr.specs.Cut.{IsBoundary}
use Rattle.compact_repr.specs.Value.{PlacedText, placed_text}
use Rattle.compact_repr.specs.Capacity.{Growth, inline_placement, heap_placement, static_placement}
use Rattle.compact_repr.specs.Capacity.{with_capacity_placement}
use Rattle.compact_text.proofs.CutLemmas.{size-text_before, boundary-within, boundary-from_size}
use Rattle.compact_str.specs.Room.{own_capacity, infallible_capacity, IsPlacedBySize}
use Rattle.compact_repr.specs.Calls.{truncate, insert_str, replace_range}
use Rattle.compact_str.specs.Edits.{Removes, split_tail, repeat, clone_from}
use Rattle.compact_str.specs.Ranges.{IsRange, span, range_start, range_end}
use Rattle.std.specs.declared.cmp.Ordering.TheVariants.{Less, Equal, Greater}
use Rattle.compact_str.specs.Order.{same_text, text_order, text_cmp}
use Rattle.compact_str.specs.Drain.{range_text, without_range}
use Rattle.compact_str.specs.Collect.{Appends, join, char_text}
use Rattle.compact_str.specs.RetainRules.{retained_text, flag_rule}

abbrev standard : Growth
standard = record { least = 32; numerator = 3; denominator = 2 }

-- n times `a`
abbrev sample : ℕ → List ℕ
sample n = replicate n 97

-- a static string of 30 bytes
abbrev lasting_30 : PlacedText
lasting_30 = placed_text (sample 30) (static_placement (sample 30))

abbrev abc : List ℕ
abc = 97 ∷ 98 ∷ 99 ∷ []

-- `"äb"`
abbrev mixed : List ℕ
mixed = 0xE4 ∷ 98 ∷ []

-- insertion and replacement

an_empty_insertion_makes_room_by_growth : insert_str standard lasting_30 0 []
    ≡ Some (placed_text (sample 30) (heap_placement 45))
an_empty_insertion_makes_room_by_growth = refl

an_empty_replacement_only_makes_it_owned : replace_range standard lasting_30 0 0 []
    ≡ Some (placed_text (sample 30) (heap_placement 32))
an_empty_replacement_only_makes_it_owned = refl

a_longer_replacement_makes_room_for_the_difference : replace_range standard (placed_text (sample 24) inline_placement)
    0 2 (sample 4) ≡ Some (placed_text (sample 26) (heap_placement 36))
a_longer_replacement_makes_room_for_the_difference = refl

a_replacement_of_equal_size_stays_in_place : replace_range standard (placed_text (sample 30) (heap_placement 30)) 0 3
    abc ≡ Some (placed_text (97 ∷ 98 ∷ 99 ∷ sample 27) (heap_placement 30))
a_replacement_of_equal_size_stays_in_place = refl

-- removal

removal_copies_a_static_text : Removes standard lasting_30 0 97 (placed_text (sample 29) (heap_placement 32))
removal_copies_a_static_text = (sample 29, refl, refl)

-- a split

a_long_tail_stays_static : split_tail standard lasting_30 3 ≡ Some
    (placed_text (sample 27) (static_placement (sample 27)))
a_long_tail_stays_static = refl

a_front_stays_static : truncate lasting_30 3 ≡ placed_text (sample 3) (static_placement (sample 3))
a_front_stays_static = refl

a_short_tail_is_inline : split_tail standard lasting_30 6 ≡ Some (placed_text (sample 24) inline_placement)
a_short_tail_is_inline = refl

a_tail_of_a_heap_text_is_made_anew : split_tail standard (placed_text (sample 40) (heap_placement 100)) 10
    ≡ Some (placed_text (sample 30) (heap_placement 32))
a_tail_of_a_heap_text_is_made_anew = refl

-- repetition

abc_nine_times : repeat standard (placed_text abc inline_placement) 9
    ≡ Some (placed_text (97 ∷ 98 ∷ 99 ∷ 97 ∷ 98 ∷ 99 ∷ 97 ∷ 98 ∷ 99 ∷ 97 ∷ 98 ∷ 99 ∷ 97 ∷ 98 ∷ 99 ∷ 97 ∷ 98 ∷ 99 ∷ 97
    ∷ 98 ∷ 99 ∷ 97 ∷ 98 ∷ 99 ∷ 97 ∷ 98 ∷ 99 ∷ []) (heap_placement 32))
abc_nine_times = refl

no_times_is_empty_and_inline : repeat standard lasting_30 0 ≡ Some (placed_text [] inline_placement)
no_times_is_empty_and_inline = refl

once_is_a_clone : repeat standard lasting_30 1 ≡ Some lasting_30
once_is_a_clone = refl

once_of_an_empty_text_is_inline : repeat standard (placed_text [] (heap_placement 100)) 1
    ≡ Some (placed_text [] inline_placement)
once_of_an_empty_text_is_inline = refl

two_bytes_as_often_as_can_be_counted_are_refused : with_capacity_placement standard (2 * 18446744073709551615) ≡ None
two_bytes_as_often_as_can_be_counted_are_refused = refl

-- `clone_from`

an_inline_source_brings_its_place : clone_from standard (placed_text (sample 30) (heap_placement 100))
    (placed_text abc inline_placement) ≡ Some (placed_text abc inline_placement)
an_inline_source_brings_its_place = refl

a_static_source_brings_its_place : clone_from standard (placed_text (sample 30) (heap_placement 100)) lasting_30
    ≡ Some lasting_30
a_static_source_brings_its_place = refl

an_empty_heap_source_clears_a_static_target : clone_from standard lasting_30 (placed_text [] (heap_placement 100))
    ≡ Some (placed_text [] (static_placement []))
an_empty_heap_source_clears_a_static_target = refl

a_heap_source_fits_a_heap_target : clone_from standard (placed_text abc (heap_placement 100))
    (placed_text (sample 30) (heap_placement 30)) ≡ Some (placed_text (sample 30) (heap_placement 100))
a_heap_source_fits_a_heap_target = refl

-- room

a_static_text_owns_no_room : own_capacity lasting_30 ≡ 0
a_static_text_owns_no_room = refl

a_static_text_has_24_infallible_bytes : infallible_capacity lasting_30 ≡ 24
a_static_text_has_24_infallible_bytes = refl

a_heap_buffer_is_infallible : infallible_capacity (placed_text abc (heap_placement 100)) ≡ 100
a_heap_buffer_is_infallible = refl

a_small_heap_buffer_gives_way_to_24_bytes : infallible_capacity (placed_text abc (heap_placement 5)) ≡ 24
a_small_heap_buffer_gives_way_to_24_bytes = refl

-- ranges of a text of two and one bytes

boundary_0 : IsBoundary mixed 0
boundary_0 = boundary-from_size mixed 0 refl

boundary_2 : IsBoundary mixed 2
boundary_2 = boundary-from_size mixed 2 refl

boundary_3 : IsBoundary mixed 3
boundary_3 = boundary-from_size mixed 3 refl

no_range_starts_within_a_character : ¬ IsRange mixed (span (Included 1) Unbounded)
no_range_starts_within_a_character range = let within = size-text_before mixed 1 range.first in omega (arith, within)

an_excluded_start_is_a_byte_after : range_start (Excluded 1) ≡ 2
an_excluded_start_is_a_byte_after = refl

an_excluded_end_is_there : range_end mixed (Excluded 3) ≡ 3
an_excluded_end_is_there = refl

both_ends_excluded : IsRange mixed (span (Excluded 1) (Excluded 3))
both_ends_excluded = record { order = omega arith; first = boundary_2; last = boundary_3 }

an_open_start_is_0 : range_start Unbounded ≡ 0
an_open_start_is_0 = refl

an_included_end_is_a_byte_after : range_end mixed (Included 2) ≡ 3
an_included_end_is_a_byte_after = refl

an_open_start_with_an_included_end : IsRange mixed (span Unbounded (Included 2))
an_open_start_with_an_included_end = record { order = omega arith; first = boundary_0; last = boundary_3 }

an_open_end_is_that_of_the_text : range_end mixed Unbounded ≡ 3
an_open_end_is_that_of_the_text = refl

the_empty_range_at_the_end : IsRange mixed (span (Included 3) Unbounded)
the_empty_range_at_the_end = record { order = omega arith; first = boundary_3; last = boundary_3 }

no_range_ends_before_it_starts : ¬ IsRange mixed (span (Included 3) (Excluded 2))
no_range_ends_before_it_starts range = let order = range.order in omega (arith, order)

no_range_ends_past_the_text : ¬ IsRange mixed (span Unbounded (Excluded 4))
no_range_ends_past_the_text range = let within = boundary-within mixed 4 range.last in omega (arith, within)

-- equality and order

places_and_capacities_have_no_part : same_text lasting_30 (placed_text (sample 30) (heap_placement 45)) ≡ true
places_and_capacities_have_no_part = refl

a_front_is_not_the_same : same_text (placed_text (sample 2) inline_placement)
    (placed_text (sample 3) inline_placement) ≡ false
a_front_is_not_the_same = refl

places_have_no_part_in_the_order : text_cmp lasting_30 (placed_text (sample 30) (heap_placement 45)) ≡ Equal
places_have_no_part_in_the_order = refl

the_empty_text_is_first : text_order [] (97 ∷ []) ≡ Less
the_empty_text_is_first = refl

a_front_is_less : text_order (97 ∷ []) (97 ∷ 98 ∷ []) ≡ Less
a_front_is_less = refl

a_longer_text_may_be_less : text_order (97 ∷ 98 ∷ []) (98 ∷ []) ≡ Less
a_longer_text_may_be_less = refl

the_last_of_three_bytes_is_before_the_first_of_four : text_order (0xFFFD ∷ []) (0x10000 ∷ []) ≡ Less
the_last_of_three_bytes_is_before_the_first_of_four = refl

the_first_place_that_differs_decides : text_order (0x20AC ∷ 122 ∷ []) (0x20AC ∷ 97 ∷ 98 ∷ []) ≡ Greater
the_first_place_that_differs_decides = refl

-- removal of ranges

b_is_a_part : range_text mixed 3 2 3 ≡ 98 ∷ []
b_is_a_part = refl

a_text_of_another_length_has_no_range : range_text mixed 4 2 3 ≡ []
a_text_of_another_length_has_no_range = refl

b_is_taken_out_in_place : without_range (placed_text mixed inline_placement) 3 2 3
    ≡ placed_text (0xE4 ∷ []) inline_placement
b_is_taken_out_in_place = refl

nothing_is_taken_out_of_a_static_text : without_range lasting_30 30 0 3 ≡ lasting_30
nothing_is_taken_out_of_a_static_text = refl

-- collecting and joining

a_separator_is_between_each_two : join (44 ∷ 32 ∷ []) char_text abc ≡ 97 ∷ 44 ∷ 32 ∷ 98 ∷ 44 ∷ 32 ∷ 99 ∷ []
a_separator_is_between_each_two = refl

an_empty_item_keeps_its_separator : join (45 ∷ []) (λ t. t) (abc ∷ [] ∷ []) ≡ 97 ∷ 98 ∷ 99 ∷ 45 ∷ []
an_empty_item_keeps_its_separator = refl

one_item_has_no_separator : join (45 ∷ []) char_text (97 ∷ []) ≡ 97 ∷ []
one_item_has_no_separator = refl

nothing_is_joined_to_nothing : join (45 ∷ []) char_text [] ≡ []
nothing_is_joined_to_nothing = refl

an_empty_item_leaves_a_static_value : Appends standard (λ t. t) lasting_30 ([] ∷ []) lasting_30
an_empty_item_leaves_a_static_value = (lasting_30, refl, refl)

another_moves_it_by_growth : Appends standard (λ t. t) lasting_30 ([] ∷ (98 ∷ []) ∷ [])
    (placed_text (sample 30 ++ 98 ∷ []) (heap_placement 45))
another_moves_it_by_growth = (lasting_30, refl, (placed_text (sample 30 ++ 98 ∷ []) (heap_placement 45), refl, refl))

bytes_24_are_inline : IsPlacedBySize (placed_text (sample 24) inline_placement)
bytes_24_are_inline = record { short = λ _. refl; long = λ h. absurd (omega (arith, h)) }

bytes_25_are_on_the_heap : IsPlacedBySize (placed_text (sample 25) (heap_placement 32))
bytes_25_are_on_the_heap = record { short = λ h. absurd (omega (arith, h)); long = λ _. (refl, omega (arith)) }

bytes_25_may_have_more_room : IsPlacedBySize (placed_text (sample 25) (heap_placement 100))
bytes_25_may_have_more_room = record { short = λ h. absurd (omega (arith, h)); long = λ _. (refl, omega (arith)) }

flags_keep_three_of_five : retained_text flag_rule (false ∷ true ∷ true ∷ false ∷ true ∷ [])
    (0xE4 ∷ 0x62 ∷ 0x1D11E ∷ 0x64 ∷ 0x20AC ∷ []) ≡ 0x62 ∷ 0x1D11E ∷ 0x20AC ∷ []
flags_keep_three_of_five = refl

a_character_with_no_flag_stays : retained_text flag_rule (true ∷ false ∷ []) (0x41 ∷ 0x62 ∷ 0x43 ∷ [])
    ≡ 0x41 ∷ 0x43 ∷ []
a_character_with_no_flag_stays = refl
