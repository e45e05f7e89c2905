-- Laws of edits, decoding and packed bytes.
use Rattle.std.specs.Prelude.{◌≡◌, ℕ, ◌<◌, List, false, [], ◌∷◌, Some}
use Rattle.std.specs.Str.{IsUtf8}
use Rattle.compact_codec.specs.Utf8Text.{BytesEncode, utf8_lossy_text}
use Rattle.compact_repr.specs.Text.{size, utf8, text_of}
use Rattle.compact_repr.specs.Cut.{IsBoundary, text_before}
use Rattle.compact_repr.specs.Packed.{IsPackedFor}
use Rattle.compact_repr.specs.Value.{PlacedText, placed_text, IsSound}
use Rattle.compact_repr.specs.Capacity.{Growth, kept_placement, make_owned_allocates}
use Rattle.compact_repr.specs.Calls.{push_str, clone, truncate, insert_str}
use Rattle.compact_str.specs.Edits.{Removes, split_tail}

-- a character that was inserted can be removed without allocating, which restores the text
pub record RemovalUndoes (g : Growth) (v w : PlacedText) (index c : ℕ) : Type 0 where
  pub boundary : IsBoundary w.text index
  pub within : index < size w.text
  pub allocates_nothing : make_owned_allocates w ≡ false
  pub undoes : (d : ℕ) (u : PlacedText) → Removes g w index d u → (d ≡ c) × (u.text ≡ v.text)

abbrev pub RemovalUndoesInsertion : Type 0
RemovalUndoesInsertion =
    (g : Growth) (v w : PlacedText) (index c : ℕ) → IsBoundary v.text index → insert_str g v index (c ∷ []) ≡ Some w
    → RemovalUndoes g v w index c

-- after an append, truncating at the old length restores the text
abbrev pub TruncationUndoesAppend : Type 0
TruncationUndoesAppend =
    (g : Growth) (v w : PlacedText) (s : List ℕ) → push_str g v s ≡ Some w
    → IsBoundary w.text (size v.text) × ((truncate w (size v.text)).text ≡ v.text)

-- appending a tail that was split off restores the text
abbrev pub AppendUndoesSplit : Type 0
AppendUndoesSplit =
    (g : Growth) (v tail w : PlacedText) (index : ℕ) → split_tail g v index ≡ Some tail
    → push_str g (placed_text (text_before v.text index) (kept_placement v (text_before v.text index))) tail.text ≡ Some w → w.text ≡ v.text

-- a clone has the text of its source
abbrev pub CloneIsEqual : Type 0
CloneIsEqual = (g : Growth) (v w : PlacedText) → clone g v ≡ Some w → w.text ≡ v.text

-- 24 bytes encode at most one text
abbrev pub PackedBytesStandForOneText : Type 0
PackedBytesStandForOneText = (bytes t s : List ℕ) → IsPackedFor bytes t → IsPackedFor bytes s → t ≡ s

-- a text's bytes encode it and decode to it, strictly; and valid bytes decode to the same text lossily
abbrev pub DecodingUndoesEncoding : Type 0
DecodingUndoesEncoding =
    ((v : PlacedText) → IsSound v → BytesEncode (utf8 v.text) v.text × (text_of (utf8 v.text) ≡ v.text))
    × ((bytes : List ℕ) → IsUtf8 bytes → utf8_lossy_text bytes ≡ text_of bytes)
