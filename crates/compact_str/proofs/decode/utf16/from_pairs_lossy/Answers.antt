use Rattle.std.proofs.Common.{List, ℕ, subst, sym}
use Rattle.compact_codec.specs.Utf16Text.{utf16_lossy_text}
use Rattle.compact_codec.specs.Utf16Bytes.{units_of}
use Rattle.compact_str.specs.Decoding.{MakesText}
use Rattle.compact_str.proofs.decode.utf16.from_pairs_lossy.Goals as goal

pub returns-in-LittleEndian : goal.returns-in-LittleEndian
returns-in-LittleEndian c =
    subst (λ (units : List ℕ). MakesText (utf16_lossy_text units) c.from_units_lossy.result)
    (λ i. units_of (sym c.in-LittleEndian.is i) (c.new.ensures i)) c.from_units_lossy.ensures

pub returns-in-BigEndian : goal.returns-in-BigEndian
returns-in-BigEndian c =
    subst (λ (units : List ℕ). MakesText (utf16_lossy_text units) c.from_units_lossy-in-BigEndian.result)
    (λ i. units_of (sym c.in-BigEndian.is i) (c.new-in-BigEndian.ensures i)) c.from_units_lossy-in-BigEndian.ensures
