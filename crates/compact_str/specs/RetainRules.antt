-- Retaining by a test or by a rule.
use Rattle.std.specs.Prelude.{◌≡◌, ℕ, List, [], ◌∷◌, Bool, true, drop, if◌then◌else◌}
use Rattle.std.specs.List.Retain.{IsFiltered}
use Rattle.std.specs.Fn.{Called, Mut}

-- `RetainsCharsTo`, for any final state of the test
abbrev pub RetainsChars : {F : Type 0} → Mut F (ℕ × Unit {0}) Bool → F → List ℕ → List ℕ → Type 0
RetainsChars test f t u = IsFiltered (λ p c b q. Called test p (c, tt) b q) f t u

-- the test returns what `says` does, whatever its state
abbrev pub AgreesWith : {F : Type 0} → Mut F (ℕ × Unit {0}) Bool → (ℕ → Bool) → Type 0
AgreesWith {F} test says = (p : F) (c : ℕ) (b : Bool) (q : F) → Called test p (c, tt) b q → b ≡ says c

-- the characters that a rule keeps: from a state and a character it decides whether to keep that, and the next state
abbrev pub retained_text : {S : Type 0} → (S → ℕ → Bool × S) → S → List ℕ → List ℕ
retained_text rule s [] = []
retained_text rule s (c ∷ cs) = if (rule s c).0 then c ∷ retained_text rule (rule s c).1 cs else retained_text rule
    (rule s c).1 cs

-- its final state
abbrev pub retain_state : {S : Type 0} → (S → ℕ → Bool × S) → S → List ℕ → S
retain_state rule s [] = s
retain_state rule s (c ∷ cs) = retain_state rule (rule s c).1 cs

-- the first flag, or `true` if none is left
abbrev pub next_flag : List Bool → Bool
next_flag [] = true
next_flag (flag ∷ flags) = flag

-- the rule that follows a list of flags; a character past its end is kept
abbrev pub flag_rule : List Bool → ℕ → Bool × List Bool
flag_rule flags c = (next_flag flags, drop 1 flags)
