-- `BTreeMap` and `BTreeSet` with values as keys, read by a key's bytes, as std's with `String` keys.
use Rattle.std.specs.Prelude.{ℕ, List, Bool, Option, ◌≡◌, IsTrue, refl}
use Rattle.std.specs.declared.cmp.Ordering.{Ordering}
use Rattle.std.specs.BTreeMap.{BTreeMap, get_by}
use Rattle.std.specs.BTreeSet.{BTreeSet, contains_by}
use Rattle.std.specs.Ordering.{nat_cmp, is_le}
use Rattle.std.specs.Cmp.Lexicographic.{slice_cmp}
use Rattle.compact_repr.specs.Text.{utf8}
use Rattle.compact_repr.specs.Value.{PlacedText}
use Rattle.std.specs.declared.cmp.Ordering.TheVariants.{Less, Equal, Greater}
use Rattle.std.specs.Cmp.{IsTotalOrder}
use Rattle.std.proofs.Common.{◌∙◌, sym, ap, true≢false}

-- the order of the bytes bs and the key k
abbrev pub bytes_cmp : List ℕ → PlacedText → Ordering
bytes_cmp bs k = slice_cmp nat_cmp bs (utf8 k.text)

-- the value at the key with the bytes bs
abbrev pub get_by_text : {X : Type 0} → BTreeMap PlacedText X → List ℕ → Option X
get_by_text m bs = get_by (bytes_cmp bs) m

-- the set has the key with the bytes bs
abbrev pub contains_text : BTreeSet PlacedText → List ℕ → Bool
contains_text s bs = contains_by (bytes_cmp bs) s

-- from x <= y and y < z, x < z
pub le_lt_trans : {K : Type 0} {cmp : K → K → Ordering} → IsTotalOrder cmp → (x y z : K)
    → IsTrue (is_le (cmp x y)) → cmp y z ≡ Less → cmp x z ≡ Less
le_lt_trans {cmp = cmp} o x y z le lt = by (cmp x y) refl
  where
    by : (r : Ordering) → cmp x y ≡ r → cmp x z ≡ Less
    by Less e = o.trans x y z e lt
    by Equal e = o.congr x y z e ∙ lt
    by Greater e = absurd (true≢false (sym le ∙ ap is_le e))
