-- Sets of facts for the proofs of this crate, by kind of edit.
use Rattle.std.proofs.lemmas.Str.{IsUtf8-string_bytes, length-encode, encodes-chars}
use Rattle.compact_text.proofs.TextFacts.{text_facts}
use Rattle.compact_repr.proofs.PlacementLemmas.{append-in_place, insert-in_place, replace-in_place, owned-in_place}
use Rattle.compact_text.proofs.CutLemmas.{boundary-within, size-text_after, boundary-next, text_after-next}
use Rattle.compact_str.proofs.PositionLemmas.{truncate-text, boundary-cut, before_bytes, after_bytes, truncated-bytes}
use Rattle.compact_str.proofs.PositionLemmas.{inserted-bytes, inserted-boundary, inserted-after, inserted-character}
use Rattle.compact_str.proofs.PositionLemmas.{inserted-character_after, removed-character, removed-char_at}
use Rattle.compact_str.proofs.PositionLemmas.{removed-bytes, replaced-bytes}
use Rattle.compact_str.proofs.RoomLemmas.{append-infallible, room-infallible, appended-bytes, pushed-bytes}
use Rattle.compact_text.proofs.AsciiCase.{boundary-lowercase, boundary-uppercase}
use Rattle.compact_str.proofs.CaseLemmas.{new-lowercase, new-uppercase}
use Rattle.compact_str.proofs.RepeatLemmas.{repeated_text-none, repeated_text-one, placed-once}

-- append
pub ruleset append_facts = (text_facts, append-in_place, append-infallible, appended-bytes)

-- append of a character
pub ruleset character_facts = (text_facts, append-in_place, append-infallible, pushed-bytes, length-encode)

-- edits at a position
pub ruleset position_facts = (
  text_facts,
  boundary-within,
  size-text_after,
  boundary-next,
  text_after-next,
  truncate-text,
  boundary-cut,
  before_bytes,
  after_bytes,
  truncated-bytes,
  pushed-bytes,
)

-- insertion
pub ruleset insertion_facts = (
  text_facts,
  insert-in_place,
  room-infallible,
  boundary-within,
  inserted-bytes,
  inserted-boundary,
  inserted-after,
  encodes-chars,
)

-- insertion of a character
pub ruleset character_insertion_facts = (
  text_facts,
  insert-in_place,
  room-infallible,
  boundary-within,
  inserted-boundary,
  inserted-character,
  inserted-character_after,
)

-- removal
pub ruleset removal_facts = (position_facts, owned-in_place, removed-character, removed-char_at, removed-bytes)

-- replacement
pub ruleset replacement_facts = (text_facts, replace-in_place, replaced-bytes)

-- repetition
pub ruleset repeat_facts = (text_facts, repeated_text-none, repeated_text-one, placed-once)

-- change of ASCII case
pub ruleset case_facts = (text_facts, new-lowercase, new-uppercase, boundary-lowercase, boundary-uppercase)

-- conversion from `String`
pub ruleset string_facts = (text_facts, IsUtf8-string_bytes)
