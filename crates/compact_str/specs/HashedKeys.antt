-- `HashMap`, `HashSet` and those of `indexmap` with values as keys, read by a key's bytes, as std's with `String`
-- keys.
use Rattle.std.specs.Prelude.{ℕ, List, Bool, Option}
use Rattle.std.specs.HashMap.{HashMap, get_by}
use Rattle.std.specs.HashSet.{HashSet, contains_by}
use Rattle.std.specs.Str.{bytes_eq}
use Rattle.compact_repr.specs.Text.{utf8}
use Rattle.compact_repr.specs.Value.{PlacedText}

-- the text of k has the bytes bs
abbrev pub has_bytes : List ℕ → PlacedText → Bool
has_bytes bs k = bytes_eq bs (utf8 k.text)

-- the value at the key with the bytes bs
abbrev pub get_by_text : {X S : Type 0} → HashMap PlacedText X S → List ℕ → Option X
get_by_text m bs = get_by (has_bytes bs) m

-- the set has the key with the bytes bs
abbrev pub contains_text : {S : Type 0} → HashSet PlacedText S → List ℕ → Bool
contains_text s bs = contains_by (has_bytes bs) s
