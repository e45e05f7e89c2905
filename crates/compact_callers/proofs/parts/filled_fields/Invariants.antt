use Rattle.std.proofs.Common.{◌≡◌, ◌+◌, length, not, nat_eq, count_by}
use Rattle.std.specs.List.{slice_split}
use Rattle.std.specs.Str.Iter.{split_pattern}
use Rattle.compact_str.specs.Parts.{parts_to_come}
use Rattle.compact_callers.proofs.parts.filled_fields.Given as goal

abbrev pub invariant-loop-field : goal.invariant-loop-field
invariant-loop-field l = (split_pattern l.field-iterator ≡ 44)
    × (l.count + count_by (λ field. not (nat_eq (length field) 0)) (parts_to_come l.field-iterator)
    ≡ count_by (λ field. not (nat_eq (length field) 0)) (slice_split (λ byte. nat_eq byte 44) l.line))
