-- Cuts of a text between two characters, at a position in bytes of UTF-8.
use Rattle.std.specs.Prelude.{◌≡◌, ℕ, ◌-◌, List, [], ◌∷◌, ◌++◌, if◌then◌else◌, Bool, nat_eq, nat_le, ◌↔◌}
use Rattle.std.specs.Char.{len_utf8}
use Rattle.compact_text.specs.Text.{size}

pub record IsCut (t : List ℕ) (p : ℕ) (a b : List ℕ) : Type 0 where
  pub parts : t ≡ a ++ b
  pub position : size a ≡ p

abbrev pub IsBoundary : List ℕ → ℕ → Type 0
IsBoundary t p = (a : List ℕ) × (b : List ℕ) × IsCut t p a b

-- the characters of t within its first p bytes
abbrev pub text_before : List ℕ → ℕ → List ℕ
text_before [] p = []
text_before (c ∷ cs) p = if nat_le (len_utf8 c) p then c ∷ text_before cs (p - len_utf8 c) else []

-- the characters after those
abbrev pub text_after : List ℕ → ℕ → List ℕ
text_after [] p = []
text_after (c ∷ cs) p = if nat_le (len_utf8 c) p then text_after cs (p - len_utf8 c) else c ∷ cs

-- tests whether p is a boundary
abbrev pub is_boundary : List ℕ → ℕ → Bool
is_boundary t p = nat_eq (size (text_before t p)) p

-- t with the part between two positions replaced with s
abbrev pub replaced_text : List ℕ → ℕ → ℕ → List ℕ → List ℕ
replaced_text t start end s = text_before t start ++ s ++ text_after t end

-- the part of t between two positions
abbrev pub substring : List ℕ → ℕ → ℕ → List ℕ
substring t start end = text_before (text_after t start) (end - start)

-- `text_before` and `text_after` are the parts of every cut, and p is a boundary exactly if the text before it has p
-- bytes
abbrev pub CutIsBeforeAndAfter : Type 0
CutIsBeforeAndAfter =
    (t : List ℕ) (p : ℕ) (a b : List ℕ) → (IsCut t p a b ↔ ((a ≡ text_before t p) × (b ≡ text_after t p)
    × (size (text_before t p) ≡ p)))

-- the character of t at p is c
pub record IsCharAt (t : List ℕ) (p c : ℕ) : Type 0 where
  pub rest : List ℕ
  pub text : text_after t p ≡ c ∷ rest
