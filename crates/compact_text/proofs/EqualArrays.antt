-- Arrays of 24 bytes with the same three words.
use Rattle.std.proofs.Common.{◌≡◌, ℕ, List, length, take, drop, sym, ap, ◌∙◌}
use Rattle.compact_text.specs.WordBytes.{word_bytes}
use Rattle.compact_text.proofs.WordArrays.{array_is_three}

pub same_arrays : (array other : List ℕ) (a b c x y z : ℕ) → length array ≡ 24 → length other ≡ 24
    → word_bytes a ≡ take 8 array → word_bytes b ≡ take 8 (drop 8 array) → word_bytes c ≡ take 8 (drop 16 array)
    → word_bytes x ≡ take 8 other → word_bytes y ≡ take 8 (drop 8 other) → word_bytes z ≡ take 8 (drop 16 other)
    → a ≡ x → b ≡ y → c ≡ z → array ≡ other
same_arrays array other a b c x y z k l p q r s t u ax by cz =
    sym (array_is_three array (word_bytes a) (word_bytes b) (word_bytes c) k p q r)
    ∙ array_is_three other (word_bytes a) (word_bytes b) (word_bytes c) l (ap word_bytes ax ∙ s)
    (ap word_bytes by ∙ t) (ap word_bytes cz ∙ u)
