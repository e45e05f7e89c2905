-- Appending a range of the value itself.
use Rattle.std.proofs.Common.{◌≡◌, List, ℕ, ◌++◌, ap, ◌∙◌}
use Rattle.std.proofs.lemmas.Str.{encodes-append}
use Rattle.compact_text.proofs.TextFacts.{text_facts}
use Rattle.compact_repr.specs.Text.{utf8}
use Rattle.compact_str.proofs.RoomLemmas.{append-infallible}

pub part-bytes : (t old part : List ℕ) → t ≡ old ++ part → utf8 t ≡ utf8 old ++ utf8 part
part-bytes t old part e = ap utf8 e ∙ encodes-append old part

pub ruleset within_facts = (text_facts, part-bytes, append-infallible)
