-- Values read by serde, and from a JSON value.
use Rattle.std.specs.Prelude.{ℕ, List, ◌≡◌, ◌<◌, ◌≤◌, length, Result, IsOk, MatchResult, Some, Err, ⊤}
use Rattle.serde.specs.Event.{Event, text}
use Rattle.serde_json.specs.Data.{Data, null, boolean, number, string, array, object}
use Rattle.compact_repr.specs.Text.{text_of}
use Rattle.compact_repr.specs.Value.{PlacedText}
use Rattle.compact_repr.specs.Capacity.{Growth}
use Rattle.compact_repr.specs.declared.inline.TheConstants.{INLINE_CAPACITY}
use Rattle.compact_repr.specs.Calls.{new}
use Rattle.compact_str.specs.declared.string.json.FromJsonError.{FromJsonError}
use Rattle.compact_str.specs.declared.string.json.FromJsonError.TheVariants.{NotAString, Reserve}

-- The reader's relation `gives` holds of these bytes as a text, for some state, input and next state. A proof for
-- every reader has this only of texts that its reader gave. Of a reader whose states are known, as JSON's, it holds of
-- every text.
abbrev pub IsGivenText : {F : Type 0} → (F → List ℕ → Event → F → Type 0) → List ℕ → Type 0
IsGivenText {F} gives bytes = (old : F) × (input : List ℕ) × (new : F) × gives old input (text bytes) new

-- allocation failed
abbrev pub IsJsonReserve : FromJsonError → Type 0
IsJsonReserve NotAString = ⊥
IsJsonReserve (Reserve _) = ⊤

-- r is a new value with the text of a JSON string; never fails up to 24 bytes
pub record ReadsString (g : Growth) (bytes : List ℕ) (r : Result PlacedText FromJsonError) : Type 0 where
  pub outcome : MatchResult r (λ v. new g (text_of bytes) ≡ Some v) (λ e. IsJsonReserve e × (INLINE_CAPACITY < length bytes))
  pub succeeds : length bytes ≤ INLINE_CAPACITY → IsOk r

-- a string is copied, and every other JSON value fails with `NotAString`
abbrev pub ReadsJson : Growth → Data → Result PlacedText FromJsonError → Type 0
ReadsJson g (string bytes) r = ReadsString g bytes r
ReadsJson g null r = r ≡ Err NotAString
ReadsJson g (boolean _) r = r ≡ Err NotAString
ReadsJson g (number _) r = r ≡ Err NotAString
ReadsJson g (array _) r = r ≡ Err NotAString
ReadsJson g (object _) r = r ≡ Err NotAString
