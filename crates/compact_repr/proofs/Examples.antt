-- Worked examples of the definitions, each computed. The numbers come from the Rust crate and from the Unicode
-- Standard.
use Rattle.std.specs.Prelude.{◌≡◌, ℕ, List, [], ◌∷◌, ◌++◌, replicate, Some, None, true, false, refl}
use Rattle.std.proofs.Common.{inl, inr, arith}
use lib.Utf8.{encode}
use Rattle.compact_repr.specs.Packed.{IsPackedFor, packed_len, packed_text}
use Rattle.compact_repr.proofs.PackedTexts.{packed-last, packed-text}
use Rattle.compact_text.specs.Text.{size, ascii_lowercase, ascii_uppercase}
use Rattle.compact_text.specs.Cut.{text_before, text_after, substring, replaced_text}
use Rattle.compact_repr.specs.Value.{PlacedText, placed_text}
use Rattle.compact_repr.specs.Capacity.{Growth, inline_placement, heap_placement, static_placement}
use Rattle.compact_repr.specs.Capacity.{checked_heap_placement, with_capacity_placement, with_capacity_allocates}
use Rattle.compact_repr.specs.Capacity.{fits_in_place, reserve_placement, reserve_allocates, kept_placement}
use Rattle.compact_repr.specs.Capacity.{owned_placement, make_owned_allocates, const_new_placement}
use Rattle.compact_repr.specs.Capacity.{from_string_placement, clone_placement, clone_allocates, shrink_to_placement}
use Rattle.compact_repr.specs.Capacity.{shrink_to_allocates}
use Rattle.compact_repr.specs.Calls.{new, push_str, push_str_allocates, clear, reserve, with_capacity, make_owned}
use Rattle.compact_repr.specs.Calls.{clone, truncate, make_ascii_lowercase, make_ascii_uppercase, retain, zeroize}

abbrev standard : Growth
standard = record { least = 32; numerator = 3; denominator = 2 }

-- n times `a`
abbrev sample : ℕ → List ℕ
sample n = replicate n 97

-- such a static value, as `const_new` makes one of 25 bytes or more
abbrev static : ℕ → PlacedText
static n = placed_text (sample n) (static_placement (sample n))

abbrev heap : ℕ → ℕ → PlacedText
heap n capacity = placed_text (sample n) (heap_placement capacity)

-- ä, b, and a musical clef of four bytes
abbrev mixed : List ℕ
mixed = 0xE4 ∷ 0x62 ∷ 0x1D11E ∷ []

mixed_has_seven_bytes : size mixed ≡ 7
mixed_has_seven_bytes = refl

mixed_is_cut_after_two_bytes : text_before mixed 2 ≡ 0xE4 ∷ []
mixed_is_cut_after_two_bytes = refl

mixed_is_cut_before_the_rest : text_after mixed 2 ≡ 0x62 ∷ 0x1D11E ∷ []
mixed_is_cut_before_the_rest = refl

mixed_with_b_replaced : replaced_text mixed 2 3 (sample 2) ≡ 0xE4 ∷ 0x61 ∷ 0x61 ∷ 0x1D11E ∷ []
mixed_with_b_replaced = refl

a_text_of_24_bytes_is_inline : new standard (sample 24) ≡ Some (placed_text (sample 24) inline_placement)
a_text_of_24_bytes_is_inline = refl

a_text_of_25_bytes_has_capacity_32 : new standard (sample 25) ≡ Some (placed_text (sample 25) (heap_placement 32))
a_text_of_25_bytes_has_capacity_32 = refl

a_text_of_49_bytes_has_capacity_49 : new standard (sample 49) ≡ Some (placed_text (sample 49) (heap_placement 49))
a_text_of_49_bytes_has_capacity_49 = refl

one_byte_more_than_24_grows_to_36 : push_str standard (placed_text (sample 24) inline_placement) (sample 1)
    ≡ Some (placed_text (sample 25) (heap_placement 36))
one_byte_more_than_24_grows_to_36 = refl

what_fits_the_capacity_keeps_it : push_str standard (placed_text (sample 33) (heap_placement 48)) (sample 15)
    ≡ Some (placed_text (sample 48) (heap_placement 48))
what_fits_the_capacity_keeps_it = refl

need_beats_the_growth : push_str standard (placed_text (sample 33) (heap_placement 48)) (sample 17)
    ≡ Some (placed_text (sample 50) (heap_placement 50))
need_beats_the_growth = refl

the_growth_beats_the_need : push_str standard (placed_text (sample 32) (heap_placement 32)) (sample 1)
    ≡ Some (placed_text (sample 33) (heap_placement 48))
the_growth_beats_the_need = refl

an_empty_push_changes_nothing : push_str standard (placed_text (sample 30) (static_placement (sample 30))) []
    ≡ Some (placed_text (sample 30) (static_placement (sample 30)))
an_empty_push_changes_nothing = refl

an_empty_reserve_makes_a_static_text_owned : reserve standard (placed_text (sample 30) (static_placement (sample 30)))
    0 ≡ Some (placed_text (sample 30) (heap_placement 45))
an_empty_reserve_makes_a_static_text_owned = refl

a_cleared_heap_text_keeps_its_capacity : clear (placed_text (sample 25) (heap_placement 36))
    ≡ placed_text [] (heap_placement 36)
a_cleared_heap_text_keeps_its_capacity = refl

a_cleared_static_text_has_no_capacity : clear (placed_text (sample 30) (static_placement (sample 30)))
    ≡ placed_text [] (static_placement [])
a_cleared_static_text_has_no_capacity = refl

the_max_capacity_is_allowed : checked_heap_placement 72057594037927934 ≡ Some (heap_placement 72057594037927934)
the_max_capacity_is_allowed = refl

one_more_is_not : checked_heap_placement 72057594037927935 ≡ None
one_more_is_not = refl

nor_is_it_made_anew : with_capacity_placement standard 72057594037927935 ≡ None
nor_is_it_made_anew = refl

room_for_24_bytes_allocates_nothing : with_capacity_allocates 24 ≡ false
room_for_24_bytes_allocates_nothing = refl

one_byte_more_than_24_allocates : push_str_allocates (placed_text (sample 24) inline_placement) (sample 1) ≡ true
one_byte_more_than_24_allocates = refl

a_static_text_is_owned_in_32_bytes : owned_placement standard (static 30) ≡ Some (heap_placement 32)
a_static_text_is_owned_in_32_bytes = refl

a_short_static_text_is_owned_inline : make_owned standard (static 10) ≡ Some (placed_text (sample 10) inline_placement)
a_short_static_text_is_owned_inline = refl

a_heap_text_is_owned_unchanged : owned_placement standard (heap 60 100) ≡ Some (heap_placement 100)
a_heap_text_is_owned_unchanged = refl

owning_a_static_text_of_25_bytes_allocates : make_owned_allocates (static 25) ≡ true
owning_a_static_text_of_25_bytes_allocates = refl

owning_a_static_text_of_24_bytes_allocates_nothing : make_owned_allocates (static 24) ≡ false
owning_a_static_text_of_24_bytes_allocates_nothing = refl

a_heap_text_is_copied_with_a_buffer_of_its_size : clone standard (heap 60 100) ≡ Some (heap 60 60)
a_heap_text_is_copied_with_a_buffer_of_its_size = refl

a_short_heap_text_is_copied_inline : clone_placement standard (heap 11 11) ≡ Some inline_placement
a_short_heap_text_is_copied_inline = refl

a_static_text_is_cloned_unchanged : clone_placement standard (static 30) ≡ Some (static_placement (sample 30))
a_static_text_is_cloned_unchanged = refl

an_inline_text_is_cloned_unchanged : clone_placement standard (placed_text (sample 3) inline_placement)
    ≡ Some inline_placement
an_inline_text_is_cloned_unchanged = refl

copying_a_heap_text_of_25_bytes_allocates : clone_allocates (heap 25 100) ≡ true
copying_a_heap_text_of_25_bytes_allocates = refl

copying_a_heap_text_of_24_bytes_allocates_nothing : clone_allocates (heap 24 100) ≡ false
copying_a_heap_text_of_24_bytes_allocates_nothing = refl

room_of_100_is_shrunk_to_50 : shrink_to_placement standard (heap 0 100) 50 ≡ heap_placement 50
room_of_100_is_shrunk_to_50 = refl

room_of_100_is_shrunk_to_32_for_25 : shrink_to_placement standard (heap 0 100) 25 ≡ heap_placement 32
room_of_100_is_shrunk_to_32_for_25 = refl

room_of_50_is_shrunk_inline_for_10 : shrink_to_placement standard (heap 0 50) 10 ≡ inline_placement
room_of_50_is_shrunk_inline_for_10 = refl

room_of_100_stays_for_100 : shrink_to_placement standard (heap 0 100) 100 ≡ heap_placement 100
room_of_100_stays_for_100 = refl

a_text_of_60_bytes_is_shrunk_to_60 : shrink_to_placement standard (heap 60 100) 0 ≡ heap_placement 60
a_text_of_60_bytes_is_shrunk_to_60 = refl

a_text_of_28_bytes_is_shrunk_to_32 : shrink_to_placement standard (heap 28 100) 0 ≡ heap_placement 32
a_text_of_28_bytes_is_shrunk_to_32 = refl

a_shrink_never_raises_a_capacity : shrink_to_placement standard (heap 26 26) 0 ≡ heap_placement 26
a_shrink_never_raises_a_capacity = refl

a_static_text_is_not_shrunk : shrink_to_placement standard (static 30) 0 ≡ static_placement (sample 30)
a_static_text_is_not_shrunk = refl

a_shrink_to_a_lower_capacity_allocates : shrink_to_allocates standard (heap 28 100) 0 ≡ true
a_shrink_to_a_lower_capacity_allocates = refl

a_shrink_that_lowers_nothing_allocates_nothing : shrink_to_allocates standard (heap 26 26) 0 ≡ false
a_shrink_that_lowers_nothing_allocates_nothing = refl

a_shrink_to_inline_allocates_nothing : shrink_to_allocates standard (heap 0 100) 10 ≡ false
a_shrink_to_inline_allocates_nothing = refl

a_short_string_moves_inline : from_string_placement (sample 3) 256 ≡ inline_placement
a_short_string_moves_inline = refl

a_long_string_keeps_its_capacity : from_string_placement (sample 25) 256 ≡ heap_placement 256
a_long_string_keeps_its_capacity = refl

a_program_text_of_24_bytes_is_inline : const_new_placement (sample 24) ≡ inline_placement
a_program_text_of_24_bytes_is_inline = refl

a_program_text_of_25_bytes_is_borrowed : const_new_placement (sample 25) ≡ static_placement (sample 25)
a_program_text_of_25_bytes_is_borrowed = refl

a_static_text_is_truncated_in_its_place : truncate (static 30) 20 ≡ static 20
a_static_text_is_truncated_in_its_place = refl

a_heap_text_is_truncated_with_its_capacity : truncate (heap 30 45) 3 ≡ heap 3 45
a_heap_text_is_truncated_with_its_capacity = refl

truncating_past_the_end_changes_nothing : truncate (heap 30 45) 31 ≡ heap 30 45
truncating_past_the_end_changes_nothing = refl

a_static_text_of_20_bytes_has_room_inline : reserve_placement standard (static 20) 1 ≡ Some inline_placement
a_static_text_of_20_bytes_has_room_inline = refl

a_static_text_never_fits_in_place : fits_in_place (static 3) 0 ≡ false
a_static_text_never_fits_in_place = refl

room_for_nothing_in_a_static_text_of_25_bytes_allocates : reserve_allocates (static 25) 0 ≡ true
room_for_nothing_in_a_static_text_of_25_bytes_allocates = refl

room_for_200_is_just_that : reserve standard (placed_text [] inline_placement) 200
    ≡ Some (placed_text [] (heap_placement 200))
room_for_200_is_just_that = refl

no_room_is_made_past_the_max_capacity : reserve_placement standard (placed_text (sample 1) inline_placement)
    18446744073709551615 ≡ None
no_room_is_made_past_the_max_capacity = refl

an_empty_value_with_room_for_25_has_32 : with_capacity standard 25 ≡ Some (placed_text [] (heap_placement 32))
an_empty_value_with_room_for_25_has_32 = refl

a_shortened_heap_text_has_its_old_capacity : kept_placement (heap 30 45) [] ≡ heap_placement 45
a_shortened_heap_text_has_its_old_capacity = refl

-- packed bytes

a_low_last_byte_means_24 : packed_len (replicate 23 0 ++ 0xBF ∷ []) ≡ 24
a_low_last_byte_means_24 = refl

the_lowest_length_is_0 : packed_len (replicate 23 0 ++ 0xC0 ∷ []) ≡ 0
the_lowest_length_is_0 = refl

-- bytes after the text are arbitrary
one_character_before_old_bytes : IsPackedFor (0x61 ∷ replicate 22 0xFF ++ 0xC1 ∷ []) (0x61 ∷ [])
unfolding encode
one_character_before_old_bytes = record { text = refl; stands = inr (omega arith, refl, refl) }

one_character_is_read : packed_text (0x61 ∷ replicate 22 0xFF ++ 0xC1 ∷ []) ≡ 0x61 ∷ []
one_character_is_read = packed-text _ (0x61 ∷ []) one_character_before_old_bytes

twenty_four_characters : IsPackedFor (replicate 24 0x61) (sample 24)
unfolding encode
twenty_four_characters = record { text = refl; stands = inl (refl, refl) }

abbrev euro_signs : List ℕ
euro_signs = 0xE2 ∷ 0x82 ∷ 0xAC ∷ 0xE2 ∷ 0x82 ∷ 0xAC ∷ 0xE2 ∷ 0x82 ∷ 0xAC ∷ 0xE2 ∷ 0x82 ∷ 0xAC ∷ 0xE2 ∷ 0x82 ∷ 0xAC ∷
    0xE2 ∷ 0x82 ∷ 0xAC ∷ 0xE2 ∷ 0x82 ∷ 0xAC ∷ 0xE2 ∷ 0x82 ∷ 0xAC ∷ []

eight_euro_signs : IsPackedFor euro_signs (replicate 8 0x20AC)
unfolding encode
eight_euro_signs = record { text = refl; stands = inl (refl, refl) }

a_last_byte_of_216_is_invalid : (t : List ℕ) → ¬ (IsPackedFor (replicate 23 0 ++ 0xD8 ∷ []) t)
a_last_byte_of_216_is_invalid t p = let last = packed-last _ t p in omega (arith, last)

-- case, `retain` and `zeroize`

only_a_to_z_are_made_lowercase : ascii_lowercase (0x41 ∷ 0x5A ∷ 0x5B ∷ 0xC4 ∷ []) ≡ 0x61 ∷ 0x7A ∷ 0x5B ∷ 0xC4 ∷ []
only_a_to_z_are_made_lowercase = refl

only_a_to_z_are_made_uppercase : ascii_uppercase (0x60 ∷ 0x61 ∷ 0x7A ∷ 0x7B ∷ 0xE4 ∷ [])
    ≡ 0x60 ∷ 0x41 ∷ 0x5A ∷ 0x7B ∷ 0xE4 ∷ []
only_a_to_z_are_made_uppercase = refl

uppercase_makes_a_static_text_owned : make_ascii_uppercase standard (static 30)
    ≡ Some (placed_text (replicate 30 0x41) (heap_placement 32))
uppercase_makes_a_static_text_owned = refl

lowercase_makes_a_static_text_owned : make_ascii_lowercase standard (static 10)
    ≡ Some (placed_text (sample 10) inline_placement)
lowercase_makes_a_static_text_owned = refl

a_zeroized_static_text_is_inline : zeroize (static 30) ≡ placed_text [] inline_placement
a_zeroized_static_text_is_inline = refl

a_zeroized_heap_text_keeps_its_capacity : zeroize (heap 30 45) ≡ placed_text [] (heap_placement 45)
a_zeroized_heap_text_keeps_its_capacity = refl

b_is_between_two_bytes_and_three : substring mixed 2 3 ≡ 0x62 ∷ []
b_is_between_two_bytes_and_three = refl

a_static_text_of_which_all_stays_is_its_own : retain standard (static 10) (sample 10)
    ≡ Some (placed_text (sample 10) inline_placement)
a_static_text_of_which_all_stays_is_its_own = refl
