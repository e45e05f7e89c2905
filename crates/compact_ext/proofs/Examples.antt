-- Worked examples of the definitions.
use Rattle.std.proofs.Common.{◌≡◌, true, Some, refl, negsuc}
use Rattle.std.specs.Prelude.{codes}
use Rattle.std.specs.Fmt.{decimal, signed_decimal, digits}
use Rattle.compact_str.specs.Value.{placed_text}
use Rattle.compact_str.specs.Capacity.{Growth, inline_placement, heap_placement}
use Rattle.compact_str.specs.Calls.{new}
use Rattle.compact_text.specs.WordBytes.{le_number}
use Rattle.compact_ext.specs.Digits.{two_digits, four_digits, prepended_number, number_text}
use Rattle.compact_ext.specs.Shown.{bool_text}

abbrev standard : Growth
standard = record { least = 32; numerator = 3; denominator = 2 }

-- `-7` is the integer `negsuc 6`

nought : decimal 0 ≡ codes "0"
unfolding digits
nought = refl

ten : decimal 10 ≡ codes "10"
unfolding digits
ten = refl

the_greatest_of_64_bits : decimal 18446744073709551615 ≡ codes "18446744073709551615"
unfolding digits
the_greatest_of_64_bits = refl

the_greatest_of_128_bits : decimal 340282366920938463463374607431768211455
    ≡ codes "340282366920938463463374607431768211455"
unfolding digits
the_greatest_of_128_bits = refl

the_least_of_8_bits : signed_decimal (negsuc 127) ≡ codes "-128"
unfolding digits
the_least_of_8_bits = refl

the_least_of_32_bits : signed_decimal (negsuc 2147483647) ≡ codes "-2147483648"
unfolding digits
the_least_of_32_bits = refl

the_least_of_64_bits : signed_decimal (negsuc 9223372036854775807) ≡ codes "-9223372036854775808"
unfolding digits
the_least_of_64_bits = refl

the_least_of_128_bits : signed_decimal (negsuc 170141183460469231731687303715884105727)
    ≡ codes "-170141183460469231731687303715884105728"
unfolding digits
the_least_of_128_bits = refl

a_sign_and_a_magnitude : number_text true 128 ≡ codes "-128"
unfolding digits
a_sign_and_a_magnitude = refl

seven_has_a_nought_before_it : two_digits 7 ≡ codes "07"
seven_has_a_nought_before_it = refl

seven_has_three_noughts_before_it : four_digits 7 ≡ codes "0007"
seven_has_three_noughts_before_it = refl

two_before_three_are_five : prepended_number (le_number (codes "345")) (codes "12") ≡ le_number (codes "12345")
two_before_three_are_five = refl

twenty_characters_are_inline : new standard (signed_decimal (negsuc 9223372036854775807))
    ≡ Some (placed_text (codes "-9223372036854775808") inline_placement)
unfolding digits
twenty_characters_are_inline = refl

forty_characters_are_on_the_heap : new standard (signed_decimal (negsuc 170141183460469231731687303715884105727))
    ≡ Some (placed_text (codes "-170141183460469231731687303715884105728") (heap_placement 40))
unfolding digits
forty_characters_are_on_the_heap = refl

thirty_nine_characters_are_on_the_heap : new standard (decimal 340282366920938463463374607431768211455)
    ≡ Some (placed_text (codes "340282366920938463463374607431768211455") (heap_placement 39))
unfolding digits
thirty_nine_characters_are_on_the_heap = refl

the_texts_of_a_bool : bool_text true ≡ codes "true"
the_texts_of_a_bool = refl
