use Rattle.std.proofs.Common.{◌≡◌, ◌++◌, map, nat_eq}
use Rattle.std.specs.List.{slice_split}
use Rattle.std.specs.Str.Iter.{split_pattern}
use Rattle.compact_str.specs.Text.{utf8}
use Rattle.compact_str.specs.Parts.{parts_to_come}
use Rattle.compact_callers.proofs.parts.fields_of.Given as goal

abbrev pub invariant-loop-field : goal.invariant-loop-field
invariant-loop-field l = (split_pattern l.field-iterator ≡ 44)
    × (map (λ field. utf8 field.text) l.fields.items ++ parts_to_come l.field-iterator
    ≡ slice_split (λ byte. nat_eq byte 44) l.line)
