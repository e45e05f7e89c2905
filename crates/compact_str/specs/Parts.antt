-- The parts of a text that an iterator of `split` at a character has still to give.
use Rattle.std.specs.Prelude.{ℕ, List, [], cond, nat_eq}
use Rattle.std.specs.declared.str.Split.{Split}
use Rattle.std.specs.List.{slice_split}
use Rattle.std.specs.Str.Iter.{split_text, split_has_more, split_pattern}

unfoldable pub parts_to_come : Split ℕ → List (List ℕ)
parts_to_come parts =
    cond (split_has_more parts) (slice_split (λ byte. nat_eq byte (split_pattern parts)) (split_text parts)) []
