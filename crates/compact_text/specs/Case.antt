-- ASCII characters in lower or upper case.
use Rattle.std.specs.Prelude.{ℕ, List, map}
use Rattle.std.specs.Char.{to_ascii_lowercase, to_ascii_uppercase}
use Rattle.compact_text.specs.declared.slices.ascii_case.Case.{Case}
use Rattle.compact_text.specs.declared.slices.ascii_case.Case.TheVariants.{Lower, Upper}

abbrev pub in_case : Case → ℕ → ℕ
in_case Lower = to_ascii_lowercase
in_case Upper = to_ascii_uppercase

-- t with its ASCII characters in a case
abbrev pub text_in_case : Case → List ℕ → List ℕ
text_in_case case t = map (in_case case) t
