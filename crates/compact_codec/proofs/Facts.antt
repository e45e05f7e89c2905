-- The rulesets that functions name: the lemmas of a source file, or of some of its functions.
use Rattle.compact_codec.proofs.InvalidSequenceLemmas.{longer_ascii, ascii_prefix, ascii_to_end}
use Rattle.compact_codec.proofs.Rows.{table_is}
use Rattle.compact_codec.proofs.Utf16BytesLemmas.{units_count, pairs_are, high_block}
use Rattle.compact_codec.proofs.Utf16BytesLemmas.{swapped, even_if_pairs, pairs_encode}
use Rattle.compact_codec.proofs.Utf16BytesLemmas.{low_block, utf16_bytes_lossy_text_of_text}
use Rattle.compact_codec.proofs.Utf16TextLemmas.{utf16_lossy_text_is, paired_is, utf16_lossy_text_of_text, from_at}
use Rattle.compact_codec.proofs.Utf8TextLemmas.{invalid_chunk, utf8_lossy_text_is, utf8_lossy_text_of_text}
use Rattle.simdutf8.proofs.Lanes.{ascii_of_mask}
use Rattle.std.proofs.lemmas.Bool.{false≢true}
use Rattle.std.proofs.lemmas.Str.{IsUtf8-from_ascii}

pub ruleset utf16_facts = (utf16_lossy_text_is, paired_is, utf16_lossy_text_of_text)

pub ruleset pair_facts = (units_count, pairs_are, pairs_encode, even_if_pairs, swapped, high_block, low_block, from_at)

pub ruleset utf16_bytes_facts = (pair_facts, utf16_bytes_lossy_text_of_text, false≢true)

pub ruleset ascii_facts = (IsUtf8-from_ascii, longer_ascii, ascii_prefix, ascii_to_end, ascii_of_mask)

pub ruleset utf8_facts = (ascii_facts, invalid_chunk, table_is, utf8_lossy_text_is, utf8_lossy_text_of_text)
