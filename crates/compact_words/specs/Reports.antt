-- The report of the most frequent words of a text.
use Rattle.std.specs.Prelude.{◌≡◌, ◌≤◌, ℕ, List, [], ◌∷◌, ◌++◌, decimal, Option, flat_map, length, map, slice_get, take}
use Rattle.std.specs.Prelude.{⊤}
use Rattle.std.specs.Global.{Vec}
use Rattle.std.specs.Option.{unwrap_or}
use Rattle.std.specs.Io.KnownBytes.{Appends}
use Rattle.compact_str.specs.Utf8Text.{utf8_lossy_text}
use Rattle.compact_str.specs.Text.{ascii_lowercase, utf8}
use Rattle.compact_str.specs.Value.{PlacedText}
use Rattle.compact_str.specs.Order.{text_in}
use Rattle.compact_edit.specs.declared.intern.TheConstants.{MAX_COUNT}
use Rattle.compact_edit.specs.declared.intern.InternError.{InternError}
use Rattle.compact_edit.specs.declared.intern.InternError.TheVariants.{Reserve, Full}
use Rattle.compact_uses.specs.Tokens.{token_text, IsTokenized}
use Rattle.compact_uses.specs.Columns.{row_text, widths_of}
use Rattle.compact_uses.specs.declared.tokenizer.Token.{Token}
use Rattle.compact_uses.specs.declared.entries.Entry.{Entry}
use Rattle.compact_uses.specs.Entries.{entries_before, IsRanking}

-- a word's text, and its count in decimal
abbrev pub entry_fields : List (List ℕ) → Entry → List (List ℕ)
entry_fields names entry = unwrap_or (slice_get names entry.name) [] ∷ decimal entry.count ∷ []

-- The text is cut into the longest possible tokens; the names are their texts by first occurrence; the words are
-- ranked by their counts, and by name number if those are equal; the first `most` are the records of a table, and the
-- lines are its rows.
pub record IsReport (text : List ℕ) (most : ℕ) (lines : List (List ℕ)) : Type 0 where
  pub names : List (List ℕ)
  pub tokens : List Token
  pub tokenized : IsTokenized [] names tokens [] text
  pub joined : flat_map (token_text names) tokens ≡ text
  pub ranks : List Entry
  pub ranked : IsRanking (entries_before tokens (length names)) ranks
  pub table : List (Vec PlacedText)
  pub fields : map (λ fields. map text_in fields.items) table ≡ map (entry_fields names) (take most ranks)
  pub rows : lines ≡ map (λ fields. row_text (widths_of table) fields.items) table

-- why a text has no report: a failed allocation, or so long a text that its tokens may outnumber the numbers
abbrev pub IsReportRefusal : List ℕ → InternError → Type 0
IsReportRefusal text (Reserve error) = ⊤
IsReportRefusal text Full = MAX_COUNT ≤ length text

-- the text whose words are counted: invalid bytes as U+FFFD, ASCII in lowercase
abbrev pub counted_text : List ℕ → List ℕ
counted_text bytes = ascii_lowercase (utf8_lossy_text bytes)

-- the bytes of some lines, each with its newline
abbrev pub bytes_of_lines : List (List ℕ) → List ℕ
bytes_of_lines lines = flat_map (λ line. utf8 line ++ 10 ∷ []) lines

-- the writer's bytes grew by the lines of a report of the text
abbrev pub AppendsReport : List ℕ → ℕ → Option (List ℕ) → Option (List ℕ) → Type 0
AppendsReport text most old new =
    (lines : List (List ℕ)) × IsReport text most lines × Appends old new (bytes_of_lines lines)
