use Rattle.std.proofs.Common.{◌≡◌, nat_eq, bytes_eq}
use Rattle.std.specs.List.{slice_split, list_any}
use Rattle.std.specs.Str.Iter.{split_pattern}
use Rattle.compact_str.specs.Parts.{parts_to_come}
use Rattle.compact_callers.proofs.parts.has_field.Given as goal

abbrev pub invariant-loop-field : goal.invariant-loop-field
invariant-loop-field l = (split_pattern l.field-iterator ≡ 44)
    × (list_any (λ field. bytes_eq field l.name) (parts_to_come l.field-iterator)
    ≡ list_any (λ field. bytes_eq field l.name) (slice_split (λ byte. nat_eq byte 44) l.line))
