-- Parts of a text: ranges in bytes, and what is between white space.
use Rattle.std.specs.Prelude.{◌≡◌, ℕ, ◌-◌, ◌≤◌, List, ◌++◌}
use Rattle.std.specs.declared.ops.Bound.{Bound}
use Rattle.std.specs.declared.ops.RangeBounds.{Ghosts}
use Rattle.std.specs.Range.Bound.{start_index, end_index}
use Rattle.compact_repr.specs.Text.{size}
use Rattle.compact_repr.specs.Cut.{IsBoundary, text_before, substring, replaced_text}
use Rattle.std.specs.List.{AllPass}
use Rattle.std.specs.Char.{is_whitespace}

-- a range, by its two bounds
pub record Span : Type 0 where
  pub start : Bound ℕ
  pub end : Bound ℕ

abbrev pub span : Bound ℕ → Bound ℕ → Span
span start end = record { start = start; end = end }

-- one of Rust's ranges, such as 1..3
abbrev pub span_of : {R : Type 0} → Ghosts R ℕ → R → Span
span_of bounds range = span (bounds.start_bound range) (bounds.end_bound range)

-- The byte positions of a range's ends. An excluded start and an included end are one past the bound; an open end is
-- the end of t.
abbrev pub range_start : Bound ℕ → ℕ
range_start start = start_index start

abbrev pub range_end : List ℕ → Bound ℕ → ℕ
range_end t end = end_index end (size t)

-- the part of t in a range, its length in bytes, and t with the range replaced with s
abbrev pub part_in : List ℕ → Span → List ℕ
part_in t range = substring t (range_start range.start) (range_end t range.end)

abbrev pub len_in : List ℕ → Span → ℕ
len_in t range = range_end t range.end - range_start range.start

abbrev pub replaced_in : List ℕ → Span → List ℕ → List ℕ
replaced_in t range s = replaced_text t (range_start range.start) (range_end t range.end) s

-- the start is not past the end, and both are boundaries of t
pub record IsRange (t : List ℕ) (range : Span) : Type 0 where
  pub order : range_start range.start ≤ range_end t range.end
  pub first : IsBoundary t (range_start range.start)
  pub last : IsBoundary t (range_end t range.end)

-- the same of two positions, as a fact with one proof: what is before a boundary has that many bytes
abbrev pub AreRangeEnds : List ℕ → ℕ → ℕ → Type 0
AreRangeEnds t i j = (i ≤ j) × (size (text_before t i) ≡ i) × (size (text_before t j) ≡ j)

-- t is r between white space
pub record IsBetweenWhitespace (t r : List ℕ) : Type 0 where
  pub head : List ℕ
  pub tail : List ℕ
  pub whole : t ≡ head ++ r ++ tail
  pub white_head : AllPass is_whitespace head
  pub white_tail : AllPass is_whitespace tail
