-- Lines that were consumed, and errors inside a line.
use Rattle.std.proofs.Common.{◌≡◌, ◌≢◌, ℕ, ◌+◌, ◌≤◌, List, [], ◌++◌, length, take, Option, IfSome}
use Rattle.std.proofs.Common.{ap, arith, length-append, length-take-le}
use Rattle.std.proofs.lemmas.List.Elements.{All-nil}
use Rattle.std.specs.Io.{StartsWith}
use Rattle.std.specs.Io.BufRead.{DropsConsumable}
use Rattle.std.specs.Io.KnownBytes.{Keeps}
use Rattle.std.proofs.KnownBytes.{Consumes-nil}
use Rattle.std.proofs.BufReadLemmas.{Consumes_shown, Consumes_through}
use Rattle.compact_text.proofs.Texts.{length-utf8}
use Rattle.compact_text.proofs.TextFacts.{text_facts}
use Rattle.compact_str.specs.Text.{size, utf8}
use Rattle.compact_str.specs.Value.{PlacedText}
use Rattle.compact_ext.specs.declared.lines.ReadLineError.{ReadLineError}
use Rattle.compact_ext.specs.declared.lines.ReadLineError.TheVariants.{Utf8, Io, Reserve}
use Rattle.compact_ext.specs.Lines.{newline, TakesLine, LineFails, IsAppendFault, BeginsWithLine}

-- a line that was shown is consumed
pub line-shown : (a b c : Option (List ℕ)) (buffered : Option ℕ) (shown : List ℕ) (n : ℕ) → BeginsWithLine shown n
    → IfSome a (λ xs. StartsWith xs shown) → IfSome a (λ xs. length shown ≡ 0 → xs ≡ []) → Keeps a b
    → IfSome a (λ _. IfSome buffered (λ k. length shown ≤ k)) → DropsConsumable b c buffered n
    → TakesLine a c (take n shown)
line-shown a b c buffered shown n line front end kept fits drops =
    let (took, none) = Consumes_shown a b c buffered shown n line.within front end kept fits drops in
    let long = length-take-le n shown line.within in
    let before = All-nil (λ (x : ℕ). x ≢ newline) in
    let (known, rest) =
    Consumes_through newline a a c [] (take n shown) (Consumes-nil a) before took line.stops line.ends
    (λ e. absurd (omega (arith, e, long, line.some))) in
    record {
      stops = line.stops;
      consumed = took;
      known = known;
      rest = rest;
      end = λ e. absurd (omega (arith, e, long, line.some));
    }

-- bytes of a line that cannot be appended
pub fails-after : (a c : Option (List ℕ)) (v : PlacedText) (line : List ℕ) (e : ReadLineError) → TakesLine a c line
    → IsAppendFault v line e → LineFails a c e
fails-after a c v line Utf8 taken fault =
    record { taken_bytes = line; bytes = taken.consumed; stops = taken.stops; fault = (taken, fault) }
fails-after a c v line (Io error) taken fault = absurd fault
fails-after a c v line (Reserve error) taken fault =
    record { taken_bytes = line; bytes = taken.consumed; stops = taken.stops; fault = tt }

-- appended bytes make a string longer
pub appended-len : (old new : PlacedText) (part : List ℕ) → utf8 new.text ≡ utf8 old.text ++ part
    → size new.text ≡ size old.text + length part
appended-len old new part e =
    omega (arith, ap length e, length-append (utf8 old.text) part, length-utf8 old.text, length-utf8 new.text)

pub ruleset line_facts = (text_facts, appended-len)
