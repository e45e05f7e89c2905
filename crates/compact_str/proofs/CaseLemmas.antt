-- Values whose ASCII case is changed.
use Rattle.std.proofs.Common.{◌≡◌, arith}
use Rattle.std.proofs.lemmas.Grind.{common_steps}
use Rattle.compact_repr.specs.Text.{ascii_lowercase, ascii_uppercase}
use Rattle.compact_repr.specs.Value.{PlacedText, placed_text}
use Rattle.compact_repr.specs.Capacity.{Growth, IsPlacedAsNew}
use Rattle.compact_text.proofs.AsciiCase.{size-lowercase, size-uppercase}

-- a new value in another case is placed as new
pub new-lowercase : (g : Growth) (v w : PlacedText) → IsPlacedAsNew g v
    → w ≡ placed_text (ascii_lowercase v.text) v.placement → IsPlacedAsNew g w
new-lowercase g v w e k = let same = size-lowercase v.text in grind (arith, common_steps)

pub new-uppercase : (g : Growth) (v w : PlacedText) → IsPlacedAsNew g v
    → w ≡ placed_text (ascii_uppercase v.text) v.placement → IsPlacedAsNew g w
new-uppercase g v w e k = let same = size-uppercase v.text in grind (arith, common_steps)
