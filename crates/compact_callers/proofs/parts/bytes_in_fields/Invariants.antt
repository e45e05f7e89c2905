use Rattle.std.proofs.Common.{◌≡◌, ◌+◌, length, nat_eq, sum_by}
use Rattle.std.specs.List.{slice_split}
use Rattle.std.specs.Str.Iter.{split_pattern}
use Rattle.compact_str.specs.Parts.{parts_to_come}
use Rattle.compact_callers.proofs.parts.bytes_in_fields.Given as goal

abbrev pub invariant-loop-field : goal.invariant-loop-field
invariant-loop-field l = (split_pattern l.field-iterator ≡ 44)
    × (l.total + sum_by (λ field. length field) (parts_to_come l.field-iterator)
    ≡ sum_by (λ field. length field) (slice_split (λ byte. nat_eq byte 44) l.line))
