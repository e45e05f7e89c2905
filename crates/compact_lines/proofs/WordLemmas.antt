-- What std's `parse` reads of a line's words.
use Rattle.std.proofs.Common.{rules, ◌≡◌, ◌∙◌, sym, ap, ℕ, ◌<◌, ◌^◌, List, [], ◌∷◌, length, Bool, true, ◌&&◌, nat_lt}
use Rattle.std.proofs.Common.{Some, None, Result, Ok, Err, IfOk, refl, arith, append-nil, if◌then◌else◌}
use Rattle.std.specs.Result.{result_ok}
use Rattle.std.specs.List.{list_all}
use Rattle.std.specs.Char.{is_ascii_digit, IsScalar, encode_utf8}
use Rattle.std.specs.Str.{chars, IsUtf8, all_scalars, encode_utf8_all}
use Rattle.std.specs.Str.Parse.{digits_value, ParsesUnsigned, ParsesChar}
use Rattle.std.proofs.lemmas.Bool.Decides.{nat_tests}
use Rattle.std.proofs.lemmas.Str.{chars-encodes, encodes-chars, scalars-chars}
use Rattle.std.proofs.lemmas.Str.Parse.{IsNumeralModel, numerals_by_value, parse_digits}
use Rattle.compact_lines.specs.Commands.{number_of, single_item, character_of}

number-there : (len v most : ℕ) (all : Bool) → all ≡ true → 0 < len → v < most
    → Some v ≡ (if nat_lt 0 len && all && nat_lt v most then Some v else None)
number-there len v most all are some fits = grind (arith, nat_tests)

number-none : (len v most : ℕ) (all : Bool) → ((0 < len) × (v < most) → ⊥)
    → None ≡ (if nat_lt 0 len && all && nat_lt v most then Some v else None)
number-none len v most all never = grind (arith, nat_tests)

own : IsNumeralModel (λ ds. list_all is_ascii_digit ds ≡ true) (digits_value 10)
own = numerals_by_value _ (search rules)

-- digits are a number just if they parse
pub number-parsed : {E : Type 0} (word : List ℕ) (r : Result ℕ E) → ParsesUnsigned 64 10 word r
    → list_all is_ascii_digit word ≡ true
    → result_ok r ≡ number_of word
number-parsed {E} word (Ok n) h are =
    let k = parse_digits own {E = E} 64 word (Ok n) h are in
    ap Some k.1 ∙ number-there (length word) (digits_value 10 word) (2 ^ 64) (list_all is_ascii_digit word) are k.0.0
    k.0.1
number-parsed {E} word (Err e) h are =
    number-none (length word) (digits_value 10 word) (2 ^ 64) (list_all is_ascii_digit word)
    (parse_digits own {E = E} 64 word (Err e) h are)

one-scalar : (c : ℕ) → all_scalars (c ∷ []) ≡ true → IsScalar c
one-scalar c is = search rules

scalar-one : (c : ℕ) → IsScalar c → all_scalars (c ∷ []) ≡ true
scalar-one c is = search rules

none-of-one : (bytes cs : List ℕ) → IsUtf8 bytes → chars bytes ≡ cs
    → ((c : ℕ) → IsScalar c → bytes ≡ encode_utf8 c → ⊥) → None ≡ single_item cs
none-of-one bytes [] text same never = refl
none-of-one bytes (c ∷ []) text same never =
    let spelt : encode_utf8_all (c ∷ []) ≡ bytes = ap encode_utf8_all (sym same) ∙ encodes-chars bytes text in
    let scalar : all_scalars (c ∷ []) ≡ true = ap all_scalars (sym same) ∙ scalars-chars bytes text in
    absurd (never c (one-scalar c scalar) (sym spelt ∙ append-nil (encode_utf8 c)))
none-of-one bytes (c ∷ d ∷ more) text same never = refl

-- a text that parses as a character is that one, and any other is no character
pub character-parsed : {E : Type 0} (bytes : List ℕ) (r : Result ℕ E) → IsUtf8 bytes → IfOk r IsScalar
    → ParsesChar bytes r
    → result_ok r ≡ character_of bytes
character-parsed bytes (Ok c) text is h =
    ap single_item (sym (ap chars (h ∙ sym (append-nil (encode_utf8 c))) ∙ chars-encodes (c ∷ []) (scalar-one c is)))
character-parsed bytes (Err e) text is h = none-of-one bytes (chars bytes) text refl h
