-- Iterating over wire forms.
use Rattle.std.specs.Prelude.{◌≡◌, ◌<◌, ◌==◌, ◌++◌, ◌+◌, ℕ, List, [], ◌∷◌, length, drop, map, if◌then◌else◌, Option}
use Rattle.std.specs.Prelude.{None, Some, Result, Ok, Err, IfSome, ◌⊎◌, MatchOption, MatchResult, flat_map, IsUtf8, ⊤}
use Rattle.std.specs.Global.{Vec}
use Rattle.std.specs.Io.{StartsWith}
use Rattle.std.specs.Io.KnownBytes.{Consumes, IsAtEnd, Keeps}
use Rattle.std.specs.Iterator.{Count, at_most}
use Rattle.std.specs.List.{All}
use Rattle.compact_str.specs.Capacity.{from_string_placement}
use Rattle.compact_str.specs.Text.{size}
use Rattle.compact_str.specs.Value.{PlacedText}
use Rattle.compact_ext.specs.declared.wire.WireError.{WireError}
use Rattle.compact_ext.specs.declared.wire.WireError.TheVariants.{TooLong, UnexpectedEnd, Utf8, Io, WriteZero, Reserve}
use Rattle.compact_ext.specs.declared.wire.records.Records.{Records}
use Rattle.compact_ext.specs.Wire.{wire, claimed_len, HasForm, ReadFails, IsOutsideForm}

-- the bytes still to be read, if the reader's type knows them and the iterator has not given up
abbrev pub records_left : {R : Type 0} → (R → Option (List ℕ)) → Records R → Option (List ℕ)
records_left remaining s = if s.calls_left == 0 then None else remaining s.reader

-- the most calls that return an item
abbrev pub calls_to_come : {R : Type 0} → Records R → Count
calls_to_come s = at_most s.calls_left

-- known bytes are left
abbrev pub HasMore : Option (List ℕ) → Type 0
HasMore known = IfSome known (λ bytes. 0 < length bytes)

-- A form had begun, unless the reader failed. Reading never fails with `TooLong` or `WriteZero`.
abbrev pub HasBegun : Option (List ℕ) → WireError → Type 0
HasBegun known UnexpectedEnd = HasMore known
HasBegun known Utf8 = HasMore known
HasBegun known (Reserve _) = HasMore known
HasBegun known (Io _) = ⊤
HasBegun known TooLong = ⊥
HasBegun known WriteZero = ⊥

-- an error of `read_wire`, inside a form or of the reader
pub record FailsWithin (old new : Option (List ℕ)) (e : WireError) : Type 0 where
  pub fails : ReadFails old new e
  pub begun : HasBegun old e

-- placed as by `read_wire`: inline up to 24 bytes, else on the heap with the exact capacity
abbrev pub IsPlacedAsRead : PlacedText → Type 0
IsPlacedAsRead v = v.placement ≡ from_string_placement v.text (size v.text)

-- the text of v has a wire form
abbrev pub FitsForm : PlacedText → Type 0
FitsForm v = HasForm v.text

-- the form of v is consumed, and v is placed as by `read_wire`
pub record ConsumesForm (old new : Option (List ℕ)) (v : PlacedText) : Type 0 where
  pub form : Consumes old new (wire v.text)
  pub fits : FitsForm v
  pub placed : IsPlacedAsRead v

-- the reader is at its end, and stays there
pub record StaysAtEnd (old new : Option (List ℕ)) : Type 0 where
  pub end : IsAtEnd old
  pub same : Keeps old new

-- a text whose form is consumed, an error of `read_wire`, or `None` at the end
abbrev pub GivesNext : Option (List ℕ) → Option (Result PlacedText WireError)
    → Option (List ℕ) → Type 0
GivesNext old None new = StaysAtEnd old new
GivesNext old (Some (Ok v)) new = ConsumesForm old new v
GivesNext old (Some (Err e)) new = FailsWithin old new e

-- The bytes still to be read after `next`. After an `Io` the iterator may have given up, so they are the reader's.
abbrev pub unread_bytes : {R : Type 0} → (R → Option (List ℕ)) → Option (Result PlacedText WireError)
    → Records R → Option (List ℕ)
unread_bytes remaining (Some (Err (Io _))) t = remaining t.reader
unread_bytes remaining _ t = records_left remaining t

-- The same of an iterator: it continues with the bytes after the item, unless an `Io` came. Says nothing of one that
-- has given up.
abbrev pub GivesRecord : {R : Type 0} → (R → Option (List ℕ)) → Records R
    → Option (Result PlacedText WireError) → Records R → Type 0
GivesRecord remaining s r t = GivesNext (records_left remaining s) r (unread_bytes remaining r t)

-- the forms of these values, one after another
abbrev pub forms_of : List PlacedText → List ℕ
forms_of texts = flat_map (λ v. wire v.text) texts

-- the forms of these texts are consumed, and each is placed as by `read_wire`
pub record ConsumesForms (old new : Option (List ℕ)) (texts : List PlacedText) : Type 0 where
  pub forms : Consumes old new (forms_of texts)
  pub fit : All FitsForm texts
  pub placed : All IsPlacedAsRead texts

-- the forms of some texts are consumed, and then `read_wire` fails
pub record FailsAfterTexts (known : Option (List ℕ)) (e : WireError) : Type 0 where
  pub texts : List PlacedText
  pub mid : Option (List ℕ)
  pub new : Option (List ℕ)
  pub took : ConsumesForms known mid texts
  pub fails : FailsWithin mid new e

-- the forms of one text or more are consumed, and allocation failed, as for the vector
pub record VecCannotGrow (known : Option (List ℕ)) (e : WireError) : Type 0 where
  pub texts : List PlacedText
  pub last : PlacedText
  pub mid : Option (List ℕ)
  pub took : ConsumesForms known mid (texts ++ last ∷ [])
  pub refused : e ≡ Reserve (record {})

-- all known bytes are the forms of these texts
abbrev pub AreForms : Option (List ℕ) → List PlacedText → Type 0
AreForms known texts = IfSome known (λ bytes. bytes ≡ forms_of texts)

-- the bytes begin with the form of v, and v is placed as by `read_wire`
pub record BeginsWithForm (bytes : List ℕ) (v : PlacedText) : Type 0 where
  pub form : StartsWith bytes (wire v.text)
  pub fits : FitsForm v
  pub placed : IsPlacedAsRead v

-- the bytes do not begin with a whole form
abbrev pub BeginsWithNoForm : List ℕ → Type 0
BeginsWithNoForm bytes = (t : List ℕ) → HasForm t → ¬ StartsWith bytes (wire t)

-- if a form is next, its text is returned and the rest is left, or the error is not in the form
abbrev pub ReadsNextBack : {R : Type 0} → (R → Option (List ℕ)) → Records R
    → Option (Result PlacedText WireError) → Records R → Type 0
ReadsNextBack remaining s r t =
    (text rest : List ℕ) → HasForm text → records_left remaining s ≡ Some (wire text ++ rest)
    → MatchOption r ⊥ (λ item. MatchResult item
    (λ v. (v.text ≡ text) × (records_left remaining t ≡ Some rest)) (IsOutsideForm (size text)))

-- an error that is not in the forms of these texts: `Io`, or `Reserve` if there is a text
abbrev pub IsOutsideForms : List (List ℕ) → WireError → Type 0
IsOutsideForms texts (Io _) = ⊤
IsOutsideForms texts (Reserve _) = 0 < length texts
IsOutsideForms texts _ = ⊥

-- if the reader has the forms of some texts and no more, these are read, or the error is not in the forms
pub record ReadsAllBack (known : Option (List ℕ)) (r : Result (Vec PlacedText) WireError)
    : Type 0 where
  pub back : (texts : List (List ℕ)) → All HasForm texts → known ≡ Some (flat_map wire texts)
      → MatchResult r (λ all. map (λ v. v.text) all.items ≡ texts) (IsOutsideForms texts)

-- `into_vec` fails after some texts, or the vector finds no room
abbrev pub FailsAtSome : Option (List ℕ) → WireError → Type 0
FailsAtSome known e = FailsAfterTexts known e ⊎ VecCannotGrow known e

-- a whole form that is not valid UTF-8
abbrev pub IsInvalidForm : List ℕ → Type 0
IsInvalidForm form = (length form ≡ 4 + claimed_len form) × ¬ IsUtf8 (drop 4 form)

-- the bytes are a sequence of forms, and these are the texts of the valid ones
pub data HasTexts : List ℕ → List (List ℕ) → Type 0 where
  none : HasTexts [] []
  text : {bytes : List ℕ} {texts : List (List ℕ)} (t : List ℕ) → HasForm t
      → HasTexts bytes texts → HasTexts (bytes ++ wire t) (texts ++ t ∷ [])
  invalid : {bytes : List ℕ} {texts : List (List ℕ)} (form : List ℕ) → IsInvalidForm form
      → HasTexts bytes texts → HasTexts (bytes ++ form) texts

-- bytes that have these texts are consumed
pub record ConsumesTexts (old new : Option (List ℕ)) (texts : List PlacedText) : Type 0 where
  pub taken_bytes : List ℕ
  pub bytes : Consumes old new taken_bytes
  pub has : HasTexts taken_bytes (map (λ v. v.text) texts)
