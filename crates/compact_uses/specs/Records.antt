-- Records of fields, as `csv` reads them by its defaults.
use Rattle.std.specs.Prelude.{◌≡◌, ℕ, List, ◌++◌, map}
use Rattle.std.specs.Global.{Vec}
use Rattle.csv.specs.Reading.{AreRecords, Reached, default_config, strip_bom}
use Rattle.csv.specs.declared.parser.State.{State}
use Rattle.csv.specs.declared.parser.State.TheVariants as st
use Rattle.compact_str.specs.Text.{utf8}
use Rattle.compact_str.specs.Value.{PlacedText}

abbrev pub bytes_in : PlacedText → List ℕ
bytes_in field = utf8 field.text

-- the fields of each record, in bytes
abbrev pub all_bytes_in : List (Vec PlacedText) → List (List (List ℕ))
all_bytes_in records = map (λ fields. map bytes_in fields.items) records

-- all records of the bytes are appended
abbrev pub ReadsAll : List ℕ → List (Vec PlacedText) → List (Vec PlacedText) → Type 0
ReadsAll bytes before after =
    (records : List (Vec PlacedText)) × (after ≡ before ++ records)
    × AreRecords default_config st.StartRecord (strip_bom bytes) (all_bytes_in records)

-- the first records of the bytes are appended, however many
abbrev pub ReadsFirst : List ℕ → List (Vec PlacedText) → List (Vec PlacedText) → Type 0
ReadsFirst bytes before after =
    (records : List (Vec PlacedText)) × (after ≡ before ++ records)
    × ((state : State) × (rest : List ℕ)
    × Reached default_config st.StartRecord (strip_bom bytes) (all_bytes_in records) state rest)
