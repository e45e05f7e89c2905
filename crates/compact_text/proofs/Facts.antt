-- The rulesets that functions name: the lemmas of a source file, or of some of its functions.
use Rattle.compact_text.proofs.Appends.{joined_ends, one_more_within}
use Rattle.compact_text.proofs.ByteNumbers.{word_bytes-high, two_reads, number_third, number_second}
use Rattle.compact_text.proofs.CutLemmas.{boundary-bytes, text_of-take, text_of-drop}
use Rattle.compact_text.proofs.CutLemmas.{text_of-last, text_before-append}
use Rattle.compact_text.proofs.Encodings.{encode_two, encode_three, encode_four}
use Rattle.compact_text.proofs.LastCharacter.{decoded}
use Rattle.compact_text.proofs.MovesByBlock.{shifted-down, shifted-up}
use Rattle.compact_text.proofs.OverlappingWrites.{ends}
use Rattle.compact_text.proofs.RetainLemmas.{after_char, utf8-after_char}
use Rattle.compact_text.proofs.SplicedSlices.{appended, padded, replace_range-paste, part-out}
use Rattle.compact_text.proofs.Texts.{size-text_of}
use Rattle.std.proofs.Common.{length-append}
use Rattle.std.proofs.lemmas.List.{take_more, take_more_set, length-set, take_all, length-drop, drop-drop, nil_from_length}
use Rattle.std.proofs.lemmas.Nat.{shr-shr}
use Rattle.std.proofs.lemmas.Simd.{put_chunk_is}
use Rattle.std.proofs.lemmas.Slice.{put_mid-paste, between_from_start}
use Rattle.std.proofs.lemmas.Str.{IsUtf8-past_char, length-encode, len_utf8_bounds}
use Rattle.std.proofs.lemmas.Str.{chars-nil, IsUtf8-nil, IsUtf8-encode}

pub ruleset slices_facts = (appended, padded, replace_range-paste, take_all, put_mid-paste, part-out, ends)

pub ruleset moves_facts = (length-drop, drop-drop, ends, shifted-down, shifted-up)

pub ruleset after_facts = (length-append, IsUtf8-past_char, length-encode, len_utf8_bounds, after_char, utf8-after_char)

pub ruleset retain_chars_facts = (after_facts, take_all, length-drop)

pub ruleset simd_facts = put_chunk_is

pub ruleset cut_facts = (between_from_start, text_of-take, text_of-drop, text_of-last, text_before-append)

pub ruleset character_facts = (chars-nil, IsUtf8-nil, IsUtf8-encode, encode_two, encode_three, encode_four)

pub ruleset str_parts_facts = (cut_facts, character_facts, boundary-bytes, nil_from_length, size-text_of, decoded)

pub ruleset vec_facts = (joined_ends, one_more_within)

pub ruleset words_facts = (shr-shr, word_bytes-high, two_reads, number_third, number_second)

pub ruleset copy_facts = (take_more, take_more_set, length-set, take_all)
