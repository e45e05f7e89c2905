-- The cells of a row, and its number of characters.
use Rattle.std.proofs.Common.{◌≡◌, ℕ, ◌+◌, ◌-◌, ◌<◌, ◌≤◌, zero, suc, List, [], ◌∷◌, ◌++◌, Option, Some, fold, get_or}
use Rattle.std.proofs.Common.{length, map, max, replicate, slice_get, slice_index_or, take, refl, ap, sym, ◌∙◌, arith}
use Rattle.std.proofs.Common.{append_assoc, append-nil, length-append}
use Rattle.std.proofs.lemmas.Grind.{common_steps}
use Rattle.std.proofs.lemmas.List.{take_more, length-replicate, length-take}
use Rattle.std.proofs.lemmas.List.Elements.{All-from_recursion, recursion_from_All}
use Rattle.std.proofs.lemmas.Option.{slice_get-map, slice_get_past}
use Rattle.std.proofs.lemmas.Str.{chars-nil}
use Rattle.std.specs.Global.{Vec}
use Rattle.std.specs.Option.{option_map, unwrap_or}
use Rattle.std.specs.List.{All, AllByRecursion}
use Rattle.compact_str.specs.Value.{PlacedText}
use Rattle.compact_str.specs.Order.{text_in}
use Rattle.compact_str.specs.Text.{text_of}
use Rattle.compact_uses.specs.Columns.{field_at, column_width, column_count, widths_before, widths_of, cell, cells}
use Rattle.compact_uses.specs.Columns.{row_text, row_width}

pub missing-field : (fields : List PlacedText) (column : ℕ) → length fields ≤ column
    → text_of [] ≡ field_at fields column
missing-field fields column past =
    chars-nil ∙ sym (ap (λ (x : Option (List ℕ)). unwrap_or x [])
    (slice_get-map text_in fields column ∙ ap (option_map text_in) (slice_get_past fields column past)))

pub present-field : (fields : List PlacedText) (column : ℕ) (field : PlacedText)
    → slice_get fields column ≡ Some field → field_at fields column ≡ field.text
present-field fields column field is = ap (λ (x : Option (List ℕ)). unwrap_or x [])
    (slice_get-map text_in fields column ∙ ap (option_map text_in) is)

cells-push : (widths : List ℕ) (width from column : ℕ) (fields : List PlacedText) → column ≡ from + length widths
    → cells (widths ++ width ∷ []) from fields ≡ cells widths from fields ++ cell width (field_at fields column)
cells-push [] width from column fields is =
    let same : from ≡ column = omega arith in
    append-nil (cell width (field_at fields from)) ∙ ap (λ k. cell width (field_at fields k)) same
cells-push (w ∷ widths) width from column fields is =
    ap (λ rest. cell w (field_at fields from) ++ rest) (cells-push widths width (from + 1) column fields (omega arith))
    ∙ sym (append_assoc (cell w (field_at fields from)) (cells widths (from + 1) fields)
    (cell width (field_at fields column)))

-- one more cell
pub row-more : (widths : List ℕ) (fields : List PlacedText) (column d : ℕ) → column < length widths
    → row_text (take (column + 1) widths) fields ≡ row_text (take column widths) fields
    ++ cell (get_or widths column d) (field_at fields column)
row-more widths fields column d within =
    let place : column ≡ 0 + length (take column widths) = omega (arith, length-take column widths) in
    ap (λ front. row_text front fields) (take_more widths column d within)
    ∙ ap (λ rest. 124 ∷ rest) (cells-push (take column widths) (get_or widths column d) 0 column fields place)

-- no field is wider than its column
abbrev Fits : List ℕ → ℕ → List PlacedText → Type 0
Fits [] from fields = Unit
Fits (width ∷ widths) from fields = (length (field_at fields from) ≤ width) × Fits widths (from + 1) fields

length-cell : (width : ℕ) (field : List ℕ) → length field ≤ width → length (cell width field) ≡ width + 3
length-cell width field fits =
    omega (
      arith,
      length-append {A = ℕ} (field ++ replicate (width - length field) 32) (32 ∷ 124 ∷ []),
      length-append {A = ℕ} field (replicate (width - length field) 32),
      length-replicate {A = ℕ} (width - length field) 32,
    )

length-cells : (widths : List ℕ) (from : ℕ) (fields : List PlacedText) → Fits widths from fields
    → length (cells widths from fields) + 1 ≡ row_width widths
length-cells [] from fields fits = refl
length-cells (width ∷ widths) from fields fits =
    omega (
      arith,
      length-append (cell width (field_at fields from)) (cells widths (from + 1) fields),
      length-cell width (field_at fields from) fits.0,
      length-cells widths (from + 1) fields fits.1,
    )

fits-push : (widths : List ℕ) (width from column : ℕ) (fields : List PlacedText) → Fits widths from fields
    → column ≡ from + length widths → length (field_at fields column) ≤ width
    → Fits (widths ++ width ∷ []) from fields
fits-push [] width from column fields fits is within =
    let same : column ≡ from = omega arith in
    (rw same at within, tt)
fits-push (w ∷ widths) width from column fields fits is within =
    (fits.0, fits-push widths width (from + 1) column fields fits.1 (omega arith) within)

length-widths_before : (table : List (Vec PlacedText)) (n : ℕ) → length (widths_before table n) ≡ n
length-widths_before table zero = refl
length-widths_before table (suc n) = omega (
  arith,
  length-append (widths_before table n) (column_width table n ∷ []),
  length-widths_before table n,
)

fits-before : (table : List (Vec PlacedText)) (fields : List PlacedText)
    → ((column : ℕ) → length (field_at fields column) ≤ column_width table column) → (n : ℕ)
    → Fits (widths_before table n) 0 fields
fits-before table fields within zero = tt
fits-before table fields within (suc n) =
    fits-push (widths_before table n) (column_width table n) 0 n fields (fits-before table fields within n)
    (omega (arith, length-widths_before table n)) (within n)

-- a column is at least as wide as each of its fields
bounded : (table : List (Vec PlacedText)) (column a : ℕ)
    → (a ≤ fold (λ width fields. max width (length (field_at fields.items column))) a table)
    × AllByRecursion (λ fields. length (field_at fields.items column)
    ≤ fold (λ width fields. max width (length (field_at fields.items column))) a table) table
bounded [] column a = (omega arith, tt)
bounded (x ∷ xs) column a =
    let rest = bounded xs column (max a (length (field_at x.items column))) in
    (omega (arith, rest.0), (omega (arith, rest.0), rest.1))

rows-width : (table : List (Vec PlacedText)) → All (λ fields. length (row_text (widths_of table) fields.items)
    ≡ row_width (widths_of table)) table
rows-width table k d lt =
    let within : (column : ℕ) → length (field_at (slice_index_or table k d).items column)
    ≤ column_width table column = λ column. All-from_recursion _ table (bounded table column 0).1 k d lt in
    omega (
      arith,
      length-cells (widths_of table) 0 (slice_index_or table k d).items
          (fits-before table (slice_index_or table k d).items within (column_count table)),
    )

same-width : (widths : List ℕ) (n : ℕ) (lines : List PlacedText) (table : List (Vec PlacedText))
    → map text_in lines ≡ map (λ fields. row_text widths fields.items) table
    → AllByRecursion (λ fields. length (row_text widths fields.items) ≡ n) table
    → AllByRecursion (λ line. length line.text ≡ n) lines
same-width widths n [] table is all = tt
same-width widths n (line ∷ lines) [] is all = grind (arith, common_steps, is)
same-width widths n (line ∷ lines) (fields ∷ table) is all =
    let first : line.text ≡ row_text widths fields.items = cc in
    let others : map text_in lines ≡ map (λ fields. row_text widths fields.items) table = cc in
    (ap length first ∙ all.0, same-width widths n lines table others all.1)

pub lines-width : (lines : List PlacedText) (table : List (Vec PlacedText)) (widths : List ℕ) (n : ℕ)
    → widths ≡ widths_of table → length table ≤ n
    → map text_in lines ≡ map (λ fields. row_text widths fields.items) (take n table)
    → All (λ line. length line.text ≡ row_width (widths_of table)) lines
lines-width lines table widths n are all is =
    let rows : map text_in lines ≡ map (λ fields. row_text (widths_of table) fields.items) table =
    grind (arith, common_steps) in
    All-from_recursion _ lines (same-width (widths_of table) (row_width (widths_of table)) lines table rows
    (recursion_from_All _ table (rows-width table)))

pub ruleset row_facts = (missing-field, present-field, row-more)
