-- The state of a drain, and its steps.
use Rattle.std.specs.Prelude.{ℕ, not, ◌&&◌, List, [], nat_eq, if◌then◌else◌, ◌≡◌, ◌∷◌, ◌++◌, Option, MatchOption}
use Rattle.compact_repr.specs.Text.{size}
use Rattle.compact_repr.specs.Cut.{substring, replaced_text}
use Rattle.compact_repr.specs.Value.{PlacedText, placed_text, is_static_place}
use Rattle.std.specs.Borrow.{GName}
use Rattle.compact_repr.specs.declared.growth.Policy.{Ghosts}
use Rattle.compact_str.specs.declared.string.drain.Drain.{Drain}

-- the part of t from i to j, or nothing if t has not this length
abbrev pub range_text : List ℕ → ℕ → ℕ → ℕ → List ℕ
range_text t len i j = if nat_eq (size t) len then substring t i j else []

-- v without the part from i to j, in its place; v if it has not this length or is static
abbrev pub without_range : PlacedText → ℕ → ℕ → ℕ → PlacedText
without_range v len i j =
    if not (is_static_place v.placement.place) && nat_eq (size v.text) len then placed_text
    (replaced_text v.text i j []) v.placement else v

module _ {P : Type 0} {G : Ghosts P} where
  -- the characters still to come
  abbrev pub drain_rest : Drain P G → List ℕ
  drain_rest d = range_text d.value.now.text d.len d.front d.back

  -- the lender once the drain is dropped
  abbrev pub value_after_drain : Drain P G → PlacedText
  value_after_drain d = without_range d.value.now d.len d.start d.end

  -- the lender
  abbrev pub drain_lender : Drain P G → GName
  drain_lender d = d.value.ghost_name

  -- `next` returns the first character, or `None` if none is left
  pub record DrainsFront (old : Drain P G) (item : Option ℕ) (new : Drain P G) : Type 0 where
    pub lender : drain_lender new ≡ drain_lender old
    pub leaves : value_after_drain new ≡ value_after_drain old
    pub step : MatchOption item ((drain_rest old ≡ []) × (drain_rest new ≡ []))
        (λ c. drain_rest old ≡ c ∷ drain_rest new)

  -- `next_back` returns the last
  pub record DrainsBack (old : Drain P G) (item : Option ℕ) (new : Drain P G) : Type 0 where
    pub lender : drain_lender new ≡ drain_lender old
    pub leaves : value_after_drain new ≡ value_after_drain old
    pub step : MatchOption item ((drain_rest old ≡ []) × (drain_rest new ≡ []))
        (λ c. drain_rest old ≡ drain_rest new ++ c ∷ [])
