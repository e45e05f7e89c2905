use Rattle.std.proofs.Common.{◌≡◌, List, ℕ, length, take, Option, None, Some, Result, Ok, Err, MatchResult, IfOk}
use Rattle.std.proofs.Common.{IfSome, ap, ◌∙◌}
use Rattle.std.specs.Prelude.{MatchOption}
use Rattle.std.specs.Io.{StartsWith}
use Rattle.std.specs.Io.KnownBytes.{Consumes}
use Rattle.std.proofs.Math.Seq.{take-append_seam}
use Rattle.std.specs.Option.{option_transpose}
use Rattle.compact_str.specs.Text.{size}
use Rattle.compact_str.specs.Value.{PlacedText}
use Rattle.compact_ext.specs.declared.wire.WireError.{WireError}
use Rattle.compact_ext.specs.WireRecords.{GivesNext}
use Rattle.compact_ext.specs.Wire.{wire, IsOutsideForm}
use Rattle.compact_ext.proofs.WireFacts.{next-back}
use Rattle.compact_callers.proofs.wire.first_record.Goals as goal

turned : (item : Option (Result PlacedText WireError)) (text : List ℕ) (Rest : Type 0)
    → MatchOption item ⊥ (λ r. MatchResult r (λ v. (v.text ≡ text) × Rest) (IsOutsideForm (size text)))
    → MatchResult (option_transpose item) (λ found. MatchOption found ⊥ (λ v. v.text ≡ text))
    (IsOutsideForm (size text))
turned None text Rest h = absurd h
turned (Some (Ok v)) text Rest h = h.0
turned (Some (Err e)) text Rest h = h

-- the text of the first form is the one expected
pub returns-clause-back : goal.returns-clause-back
returns-clause-back g c = λ text rest form is.
    rw c.transpose.ensures (turned c.next.result text _ (next-back g.R.Read.remaining c.new.result c.next.new.self _
    c.next.ensures.steps text rest form (c.new.ensures ∙ is)))

-- what a form is taken from begins with it
starts : (old new : Option (List ℕ)) (bs : List ℕ) → Consumes old new bs → IfSome old (λ bytes. StartsWith bytes bs)
starts None new bs h = tt
starts (Some xs) None bs h = absurd h
starts (Some xs) (Some ys) bs h = ap (take (length bs)) h ∙ take-append_seam bs ys

taken : (old new : Option (List ℕ)) (item : Option (Result PlacedText WireError)) → GivesNext old item new
    → IfOk (option_transpose item) (λ found. IfSome found (λ v. IfSome old (λ bytes. StartsWith bytes (wire v.text))))
taken old new None h = tt
taken old new (Some (Ok v)) h = starts old new (wire v.text) h.form
taken old new (Some (Err e)) h = tt

pub returns-clause-taken : goal.returns-clause-taken
returns-clause-taken g c = rw (c.transpose.ensures, ← c.new.ensures) (taken _ _ c.next.result c.next.ensures.steps)
