-- Tables in aligned columns. A row is a bar, and for each column a space, the field, spaces up to the column's width, a
-- space and a bar.
use Rattle.std.specs.Prelude.{◌-◌, ◌+◌, ℕ, List, [], ◌∷◌, ◌++◌, fold, length, map, max, replicate, slice_get}
use Rattle.std.specs.Global.{Vec}
use Rattle.std.specs.Option.{unwrap_or}
use Rattle.std.proofs.Common.{zero, suc}
use Rattle.compact_str.specs.Value.{PlacedText}
use Rattle.compact_str.specs.Order.{text_in}

-- the text in a column, empty if there are too few fields
abbrev pub field_at : List PlacedText → ℕ → List ℕ
field_at fields column = unwrap_or (slice_get (map text_in fields) column) []

-- the most characters of a field in the column
abbrev pub column_width : List (Vec PlacedText) → ℕ → ℕ
column_width table column = fold (λ width fields. max width (length (field_at fields.items column))) 0 table

-- the number of fields of the longest row
abbrev pub column_count : List (Vec PlacedText) → ℕ
column_count table = fold (λ count fields. max count (length fields.items)) 0 table

-- the widths of the first columns
abbrev pub widths_before : List (Vec PlacedText) → ℕ → List ℕ
widths_before table zero = []
widths_before table (suc n) = widths_before table n ++ column_width table n ∷ []

abbrev pub widths_of : List (Vec PlacedText) → List ℕ
widths_of table = widths_before table (column_count table)

abbrev pub cell : ℕ → List ℕ → List ℕ
cell width field = 32 ∷ field ++ replicate (width - length field) 32 ++ 32 ∷ 124 ∷ []

-- the cells from a column on
abbrev pub cells : List ℕ → ℕ → List PlacedText → List ℕ
cells [] column fields = []
cells (width ∷ widths) column fields = cell width (field_at fields column) ++ cells widths (column + 1) fields

abbrev pub row_text : List ℕ → List PlacedText → List ℕ
row_text widths fields = 124 ∷ cells widths 0 fields

-- the number of characters of a row
abbrev pub row_width : List ℕ → ℕ
row_width [] = 1
row_width (width ∷ widths) = width + 3 + row_width widths
