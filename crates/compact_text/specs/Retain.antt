-- Retained characters.
use Rattle.std.specs.Prelude.{◌≡◌, ℕ, List, Bool, length}
use Rattle.std.specs.List.{items_where_true}
use Rattle.std.specs.List.Retain.{ReturnsInTurn}
use Rattle.std.specs.Fn.{Called, Mut}

-- std's `IsFiltered`, with the final state g of the test, called once for each element
abbrev pub IsFilteredTo : {F X : Type 0} → (F → X → Bool → F → Type 0) → F → List X → List X → F → Type 0
IsFilteredTo calls f xs ys g =
    (flags : List Bool) × (length flags ≡ length xs) × ReturnsInTurn calls f flags xs g
    × (ys ≡ items_where_true flags xs)

-- u is t filtered by the test, which is called once for each character, in order, from state f to g
abbrev pub RetainsCharsTo : {F : Type 0} → Mut F (ℕ × Unit {0}) Bool → F → List ℕ → List ℕ → F → Type 0
RetainsCharsTo test f t u g = IsFilteredTo (λ p c b q. Called test p (c, tt) b q) f t u g
