-- Facts for collecting.
use Rattle.std.proofs.Common.{◌≡◌, ℕ, List, ◌++◌, take, append_assoc, append-nil, sym, subst}
use Rattle.std.proofs.lemmas.Str.{IsUtf8-append}
use Rattle.std.specs.Str.{IsUtf8}
use Rattle.compact_text.proofs.RetainLemmas.{utf8-pushed, text_of-pushed}
use Rattle.compact_text.proofs.TextFacts.{text_facts}
use Rattle.compact_text.proofs.Texts.{size-front}
use Rattle.compact_str.proofs.EditFacts.{string_facts}
use Rattle.compact_str.proofs.DecodedValues.{new-by_size, from_string_placement-by_size}
use Rattle.compact_str.proofs.SizePlacements.{append-moved}

pub ruleset builder_facts = (string_facts, append_assoc, append-nil, new-by_size, from_string_placement-by_size)

-- moving a text into an empty target
pub ruleset target_facts = (builder_facts, append-moved)

-- a text written after another
pub written-after : (bytes written piece : List ℕ) (n m : ℕ) → IsUtf8 (take n bytes) → IsUtf8 piece
    → take m written ≡ take n bytes ++ piece → IsUtf8 (take m written)
written-after bytes written piece n m before valid same =
    subst IsUtf8 (sym same) (IsUtf8-append (take n bytes) piece before valid)

-- a block of pieces
pub ruleset block_facts = (text_facts, size-front, written-after, utf8-pushed, text_of-pushed)
