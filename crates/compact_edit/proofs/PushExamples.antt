-- Worked examples of pushes and the bytes they move, with each value on the way. The capacities are computed by hand.
use Rattle.std.proofs.Common.{◌≡◌, ℕ, List, [], ◌∷◌, replicate, refl}
use Rattle.std.specs.Borrow.{Bor}
use Rattle.compact_str.specs.Text.{text_of}
use Rattle.compact_str.specs.Value.{PlacedText, placed_text}
use Rattle.compact_str.specs.Capacity.{Growth, inline_placement, heap_placement, static_placement}
use Rattle.compact_str.specs.declared.ReserveError.{ReserveError}
use Rattle.compact_str.specs.declared.Standard.{Standard}
use Rattle.compact_edit.specs.declared.edit.Reply.TheVariants.{Done, Refused}
use Rattle.compact_edit.specs.Pushes.{bytes_moved_by_step, PushesTo}

abbrev sample : ℕ → List ℕ
sample n = replicate n 97

abbrev short : ℕ → PlacedText
short n = placed_text (sample n) inline_placement

abbrev long : ℕ → ℕ → PlacedText
long n capacity = placed_text (sample n) (heap_placement capacity)

-- a `str` of n ASCII characters
abbrev Letters : ℕ → Bor (List ℕ) → Type 0
Letters n text = text_of text.now ≡ sample n

-- at least 32 bytes and a factor of 1.5, 32 and 2, and 25 and 1.25
abbrev half_more : Growth
half_more = record { least = 32; numerator = 3; denominator = 2 }

abbrev double : Growth
double = record { least = 32; numerator = 2; denominator = 1 }

abbrev quarter_more : Growth
quarter_more = record { least = 25; numerator = 5; denominator = 4 }

what_fits_moves_nothing : bytes_moved_by_step (long 25 36) (long 36 36) ≡ 0
what_fits_moves_nothing = refl

a_text_that_goes_to_the_heap_is_moved : bytes_moved_by_step (short 24) (long 25 36) ≡ 24
a_text_that_goes_to_the_heap_is_moved = refl

a_text_that_comes_back_from_the_heap_is_moved : bytes_moved_by_step (long 10 24) (short 10) ≡ 10
a_text_that_comes_back_from_the_heap_is_moved = refl

a_static_text_that_is_copied_is_moved : bytes_moved_by_step (placed_text (sample 30) (static_placement (sample 30)))
    (long 30 30) ≡ 30
a_static_text_that_is_copied_is_moved = refl

no_texts_move_nothing : PushesTo Standard half_more [] (short 0) 0 0
no_texts_move_nothing = ([], refl, refl, refl)

six_texts_move_180_bytes : (a b c d e f : Bor (List ℕ)) → Letters 24 a → Letters 1 b → Letters 12 c → Letters 1 d
    → Letters 18 e → Letters 2 f
    → PushesTo Standard half_more (a ∷ b ∷ c ∷ d ∷ e ∷ f ∷ []) (long 58 84) 180 0
six_texts_move_180_bytes a b c d e f has_a has_b has_c has_d has_e has_f = (
  Done ∷ Done ∷ Done ∷ Done ∷ Done ∷ Done ∷ [],
  (
    short 24,
    (tt, (refl, rw has_a refl)),
    (
      long 25 36,
      (tt, (refl, rw has_b refl)),
      (
        long 37 37,
        (tt, (refl, rw has_c refl)),
        (
          long 38 55,
          (tt, (refl, rw has_d refl)),
          (long 56 57, (tt, (refl, rw has_e refl)), (long 58 84, (tt, (refl, rw has_f refl)), refl)),
        ),
      ),
    ),
  ),
  refl,
  refl,
)

a_push_after_a_refused_one_is_done : (a b c : Bor (List ℕ)) (e : ReserveError) → Letters 24 a → Letters 40 b
    → Letters 1 c
    → PushesTo Standard half_more (a ∷ b ∷ c ∷ []) (long 25 36) 24 1
a_push_after_a_refused_one_is_done a b c e has_a has_b has_c = (
  Done ∷ Refused e ∷ Done ∷ [],
  (
    short 24,
    (tt, (refl, rw has_a refl)),
    (
      short 24,
      (refl, tt, rw has_b refl),
      (long 25 36, (tt, (refl, rw has_c refl)), refl),
    ),
  ),
  refl,
  refl,
)

a_first_buffer_moves_nothing : (a b : Bor (List ℕ)) (e : ReserveError) → Letters 30 a → Letters 30 b
    → PushesTo Standard half_more (a ∷ b ∷ []) (long 30 32) 0 1
a_first_buffer_moves_nothing a b e has_a has_b = (
  Refused e ∷ Done ∷ [],
  (short 0, (refl, tt, rw has_a refl), (long 30 32, (tt, (refl, rw has_b refl)), refl)),
  refl,
  refl,
)

five_texts_under_doubling_move_99_bytes : (a b c d e : Bor (List ℕ)) → Letters 24 a → Letters 1 b → Letters 24 c
    → Letters 1 d → Letters 1 e
    → PushesTo Standard double (a ∷ b ∷ c ∷ d ∷ e ∷ []) (long 51 100) 99 0
five_texts_under_doubling_move_99_bytes a b c d e has_a has_b has_c has_d has_e = (
  Done ∷ Done ∷ Done ∷ Done ∷ Done ∷ [],
  (
    short 24,
    (tt, (refl, rw has_a refl)),
    (
      long 25 48,
      (tt, (refl, rw has_b refl)),
      (
        long 49 50,
        (tt, (refl, rw has_c refl)),
        (
          long 50 50,
          (tt, (refl, rw has_d refl)),
          (long 51 100, (tt, (refl, rw has_e refl)), refl),
        ),
      ),
    ),
  ),
  refl,
  refl,
)

two_texts_under_slow_growth_move_25_bytes : (a b : Bor (List ℕ)) → Letters 25 a → Letters 1 b
    → PushesTo Standard quarter_more (a ∷ b ∷ []) (long 26 31) 25 0
two_texts_under_slow_growth_move_25_bytes a b has_a has_b = (
  Done ∷ Done ∷ [],
  (long 25 25, (tt, (refl, rw has_a refl)), (long 26 31, (tt, (refl, rw has_b refl)), refl)),
  refl,
  refl,
)
