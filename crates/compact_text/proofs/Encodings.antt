-- The bytes of a character.
use Rattle.std.proofs.Common.{◌≡◌, ℕ, ◌+◌, ◌/◌, ◌%◌, ◌<◌, ◌≤◌, [], ◌∷◌, ◌∙◌, arith, inl, inr}
use Rattle.std.proofs.lemmas.Bool.{cases_lt, cond-true, cond-false, lt-ltb, le-ltb}
use lib.Utf8.{encode}

-- how many bytes it has (Unicode Standard, 3.9, table 3-6)
pub data Width (c : ℕ) : Type 0 where
  one : c < 128 → Width c
  two : 128 ≤ c → c < 2048 → Width c
  three : 2048 ≤ c → c < 65536 → Width c
  four : 65536 ≤ c → Width c

pub width : (c : ℕ) → Width c
width c = elim (cases_lt c 128) [
  | inl a ↦ one a
  | inr a ↦ elim (cases_lt c 2048) [
    | inl b ↦ two a b
    | inr b ↦ elim (cases_lt c 65536) [ inl d ↦ three b d | inr d ↦ four d ]
  ]
]

pub encode_one : (c : ℕ) → c < 0x80 → encode c ≡ c ∷ []
unfolding encode
encode_one c h = cond-true _ _ _ (lt-ltb c 128 h)

pub encode_two : (c : ℕ) → 0x80 ≤ c → c < 0x800 → encode c ≡ (192 + c / 64) ∷ (128 + c % 64) ∷ []
unfolding encode
encode_two c l h = cond-false _ _ _ (le-ltb c 128 l) ∙ cond-true _ _ _ (lt-ltb c 2048 h)

pub encode_three : (c : ℕ) → 0x800 ≤ c → c < 0x1_0000 → encode c
    ≡ (224 + c / 4096) ∷ (128 + (c / 64) % 64) ∷ (128 + c % 64) ∷ []
unfolding encode
encode_three c l h = cond-false _ _ _ (le-ltb c 128 (omega arith)) ∙ cond-false _ _ _ (le-ltb c 2048 l)
    ∙ cond-true _ _ _ (lt-ltb c 65536 h)

pub encode_four : (c : ℕ) → 0x1_0000 ≤ c → encode c ≡ (240 + c / 262144) ∷ (128 + (c / 4096) % 64) ∷
    (128 + (c / 64) % 64) ∷ (128 + c % 64) ∷ []
unfolding encode
encode_four c l = cond-false _ _ _ (le-ltb c 128 (omega arith)) ∙ cond-false _ _ _ (le-ltb c 2048 (omega arith))
    ∙ cond-false _ _ _ (le-ltb c 65536 l)
