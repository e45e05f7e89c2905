-- For crates that call this one: the text of a value, as characters. Named at the caller beside the facts of
-- `compact_str`, as `#[tactic(auto, using(compact_str::proofs::ForCallers::caller_facts,
-- compact_ext::proofs::ForCallers::shown_facts))]`.
use Rattle.std.proofs.Common.{◌≡◌, ℕ, ◌^◌, ◌<◌, List, ◌++◌, ap, ◌∙◌}
use lib.IntN.{ℤ}
use lib.Signed.{mag}
use Rattle.std.proofs.lemmas.Str.{chars-append, chars-IsAscii, IsUtf8-from_ascii}
use Rattle.std.proofs.lemmas.Fmt.{IsAscii-signed}
use Rattle.std.specs.Fmt.{signed_decimal}
use Rattle.compact_str.specs.Text.{text_of}
pub use Rattle.compact_str.proofs.ForCallers.{text_of-char}

-- the bytes of a signed number decode to themselves

pub text_of-signed : (z : ℤ) → mag z < 2 ^ 63 → text_of (signed_decimal z) ≡ signed_decimal z
text_of-signed z h = chars-IsAscii (signed_decimal z) (IsAscii-signed z h)

pub text_of-signed_append : (z : ℤ) (bytes : List ℕ) → mag z < 2 ^ 63
    → text_of (signed_decimal z ++ bytes) ≡ signed_decimal z ++ text_of bytes
text_of-signed_append z bytes h =
    chars-append (signed_decimal z) bytes (IsUtf8-from_ascii (signed_decimal z) (IsAscii-signed z h))
    ∙ ap (λ t. t ++ text_of bytes) (text_of-signed z h)

pub ruleset shown_facts = (text_of-char, text_of-signed, text_of-signed_append)
