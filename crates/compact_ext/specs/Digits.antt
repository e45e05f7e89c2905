-- The text of a number.
use Rattle.std.specs.Prelude.{ℕ, ◌+◌, ◌*◌, ◌^◌, ◌/◌, ◌%◌, List, [], ◌∷◌, ◌++◌, Bool, length}
use Rattle.compact_text.specs.WordBytes.{le_number}
use Rattle.std.specs.Fmt.{decimal, sign_text}

-- the digits of a number below 100
abbrev pub two_digits : ℕ → List ℕ
two_digits n = (48 + n / 10) ∷ (48 + n % 10) ∷ []

-- the digits of a number below 10,000
abbrev pub four_digits : ℕ → List ℕ
four_digits n = two_digits (n / 100) ++ two_digits (n % 100)

-- a minus if the number is negative, and the digits of its magnitude
abbrev pub number_text : Bool → ℕ → List ℕ
number_text is_negative magnitude = sign_text is_negative ++ decimal magnitude

-- the number of a text with the bytes `front` before it
abbrev pub prepended_number : ℕ → List ℕ → ℕ
prepended_number text front = text * 2 ^ (8 * length front) + le_number front
