-- The rulesets that functions name: the lemmas of a source file, or of some of its functions.
use Rattle.compact_codec.proofs.Utf16BytesLemmas.{even_bytes_text}
use Rattle.compact_str.proofs.CharacterWrites.{two_after, three_after, four_after, after_unit}
use Rattle.compact_str.proofs.CollectLemmas.{Appends-next, pushed-from_parts, room-left, yields-next}
use Rattle.compact_str.proofs.DecodedValues.{bytes_refused, odd_byte_refused, odd_byte_read}
use Rattle.compact_text.proofs.Encodings.{encode_two, encode_three, encode_four}

pub ruleset utf16_facts = (even_bytes_text, bytes_refused, odd_byte_refused, odd_byte_read)

pub ruleset utf16_block_facts = (encode_two, encode_three, encode_four, two_after, three_after, four_after, after_unit)

pub ruleset extend_facts = (Appends-next, pushed-from_parts, room-left, yields-next)
