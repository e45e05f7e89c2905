use Rattle.std.proofs.Common.{◌≡◌, ◌++◌, map, filter, length, not, nat_eq}
use Rattle.std.specs.List.{slice_split}
use Rattle.std.specs.Str.Iter.{split_pattern}
use Rattle.compact_str.specs.Text.{utf8}
use Rattle.compact_str.specs.Parts.{parts_to_come}
use Rattle.compact_callers.proofs.parts.words_of.Given as goal

abbrev pub invariant-loop-word : goal.invariant-loop-word
invariant-loop-word l = (split_pattern l.word-iterator ≡ 32)
    × (map (λ word. utf8 word.text) l.words.items
    ++ filter (λ word. not (nat_eq (length word) 0)) (parts_to_come l.word-iterator)
    ≡ filter (λ word. not (nat_eq (length word) 0)) (slice_split (λ byte. nat_eq byte 32) l.line))
