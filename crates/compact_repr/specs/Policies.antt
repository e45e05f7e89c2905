-- A test for the law of growth policies, for those who write one.
use Rattle.std.proofs.Common.{◌≡◌, ◌+◌, Bool, true, ◌&&◌}
use Rattle.std.specs.Prelude.{nat_le, nat_lt}
use Rattle.std.proofs.lemmas.Bool.{and_parts, leb-true, ltb-true}
use Rattle.compact_repr.specs.Capacity.{Growth, IsLawful}
use Rattle.compact_repr.specs.declared.inline.TheConstants.{INLINE_CAPACITY}
use Rattle.compact_repr.specs.declared.growth.TheConstants.{MAX_CAPACITY}

-- the facts of `IsLawful`, tested
abbrev pub is_lawful : Growth → Bool
is_lawful g =
    nat_lt INLINE_CAPACITY g.least
    && (nat_le g.least MAX_CAPACITY && (nat_le 1 g.denominator &&
    (nat_lt g.denominator g.numerator && nat_le (g.numerator + g.denominator) 255)))

pub IsLawful-test : (g : Growth) → is_lawful g ≡ true → IsLawful g
IsLawful-test g test =
    let (above, rest) = and_parts _ _ test in
    let (below, others) = and_parts _ _ rest in
    let (divides, last) = and_parts _ _ others in
    let (grows, small) = and_parts _ _ last in
    record {
      above_inline = ltb-true _ _ above;
      below_limit = leb-true _ _ below;
      divides = leb-true _ _ divides;
      grows = ltb-true _ _ grows;
      small = leb-true _ _ small;
    }
