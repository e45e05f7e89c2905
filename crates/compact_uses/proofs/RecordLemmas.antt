-- Fields of a record, and records read one by one.
use Rattle.std.proofs.Common.{◌≡◌, ◌⊎◌, ℕ, ◌+◌, ◌<◌, zero, suc, List, [], ◌∷◌, ◌++◌, Option, Some, None, IfSome, map}
use Rattle.std.proofs.Common.{take, length, true, false, refl, ap, sym, ◌∙◌, inl, inr, append_assoc}
use Rattle.std.proofs.Common.{add-one, arith}
use Rattle.std.proofs.Math.Seq.{take-append_seam}
use Rattle.std.proofs.lemmas.List.{map-append}
use Rattle.std.proofs.lemmas.Option.{IfSome_then}
use Rattle.std.specs.Global.{Vec}
use Rattle.std.specs.Option.{option_map}
use Rattle.csv.specs.Reading.{Reached, ReadRecord, Ready, default_config, source_of, strip_bom}
use Rattle.csv.specs.Records.{Row, field_at, fields_of}
use Rattle.csv.specs.declared.parser.State.TheVariants as st
use Rattle.csv.specs.declared.reader.Reader.{Reader}
use Rattle.csv.specs.declared.reader.Trim.TheVariants as trim
use Rattle.csv.proofs.ReadFacts.{rows-end, rows-more}
use Rattle.csv.proofs.RecordFacts.{cut-length}
use Rattle.compact_str.specs.Value.{PlacedText}
use Rattle.compact_uses.specs.Records.{bytes_in, all_bytes_in, ReadsAll, ReadsFirst}

-- the field at a place, if there is one. The first part is trivially true: it gives `grind` the call to look for
pub field-cases : (fields : List (List ℕ)) (i : ℕ) → (field_at fields i ≡ field_at fields i)
    × (((field : List ℕ) × (field_at fields i ≡ Some field) × (i < length fields)
    × (take (i + 1) fields ≡ take i fields ++ field ∷ []))
    ⊎ ((field_at fields i ≡ None) × (take i fields ≡ fields)))
unfolding field_at
field-cases [] zero = (refl, inr (refl, refl))
field-cases [] (suc i) = (refl, inr (refl, refl))
field-cases (f ∷ fs) zero = (refl, inl (f, refl, omega arith, refl))
field-cases (f ∷ fs) (suc i) = (
  refl,
  elim (field-cases fs i).1 [
    | inl (field, is, within, more) ↦
        inl (field, is, omega arith, rw add-one (ap (λ rest. f ∷ rest) (rw add-one at more)))
    | inr (is, all) ↦ inr (is, ap (λ rest. f ∷ rest) all)
  ],
)

pub ruleset field_facts = (field-cases, cut-length)

-- the reader has these bytes left after the records
abbrev HasLeft : {R : Type 0} → (R → Option (List ℕ)) → List (Vec PlacedText) → Reader R → List ℕ → Type 0
HasLeft remaining records reader bytes =
    (rest : List ℕ) × (source_of remaining reader ≡ Some rest)
    × Reached default_config st.StartRecord (strip_bom bytes) (all_bytes_in records) reader.state rest

-- records are appended, the first of the bytes if these are known
pub record HasRead {R : Type 0} (remaining : R → Option (List ℕ)) (known : Option (List ℕ))
    (before now : List (Vec PlacedText)) (reader : Reader R) : Type 0 where
  pub trim : reader.trim ≡ trim.None
  pub ready : Ready reader
  pub config : reader.config ≡ default_config
  pub records : List (Vec PlacedText)
  pub appended : now ≡ before ++ records
  pub reached : IfSome known (HasLeft remaining records reader)

pub left-first : {R : Type 0} (remaining : R → Option (List ℕ)) (known : Option (List ℕ)) (reader : Reader R)
    → reader.state ≡ st.StartRecord → source_of remaining reader ≡ option_map strip_bom known
    → IfSome known (HasLeft remaining [] reader)
unfolding Reached
left-first remaining None reader start source = tt
left-first remaining (Some bytes) reader start source = (strip_bom bytes, source, (sym start, refl))

module _ {R : Type 0} (remaining : R → Option (List ℕ)) (known : Option (List ℕ)) (before now : List (Vec PlacedText))
    (a : Reader R) (read : HasRead remaining known before now a) where
  pub keeps : take (length before) now ≡ before
  keeps = ap (take (length before)) read.appended ∙ take-append_seam before read.records

  pub reads-first : IfSome known (λ bytes. ReadsFirst bytes before now)
  reads-first = IfSome_then known read.reached (λ bytes left. (read.records, read.appended, (a.state, left.0, left.2)))

  pub reads-all : (b : Reader R) → ReadRecord remaining a b false [] → IfSome known (λ bytes. ReadsAll bytes before now)
  reads-all b step = IfSome_then known read.reached (λ bytes left.
      let end = rows-end remaining a b [] default_config left.0 read.config left.1 step in
      (read.records, read.appended, (a.state, left.0, left.2, end)))

  pub reads-more : (b : Reader R) (after : List (Vec PlacedText)) (row : Row) (fields : Vec PlacedText)
      → ReadRecord remaining a b true (fields_of row) → b.first ≡ true
      → map bytes_in fields.items ≡ fields_of row → after ≡ now ++ fields ∷ []
      → HasRead remaining known before after b
  reads-more b after row fields step first same pushed = record {
    trim = step.3 ∙ read.trim;
    ready = inl first;
    config = step.2 ∙ read.config;
    records = read.records ++ fields ∷ [];
    appended = pushed ∙ ap (λ r. r ++ fields ∷ []) read.appended ∙ append_assoc before read.records (fields ∷ []);
    reached = IfSome_then known read.reached (λ bytes left.
        rw (map-append (λ (f : Vec PlacedText). map bytes_in f.items) read.records (fields ∷ []), same)
        (rows-more remaining a b (fields_of row) default_config st.StartRecord (strip_bom bytes) left.0
        (all_bytes_in read.records) read.config left.1 left.2 step));
  }

pub ruleset record_facts = (reads-first, keeps)
