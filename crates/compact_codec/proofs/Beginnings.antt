-- Beginnings of well-formed sequences, by their first four bytes.
use Rattle.std.proofs.Common.{◌≡◌, ℕ, ◌≤◌, ◌⊎◌, Bool, true, List, [], ◌∷◌, ◌++◌, sym, subst, arith, inl, inr, ⊎_elim}
use Rattle.std.proofs.Common.{append-nil}
use Rattle.std.proofs.lemmas.Bool.{cases_lt}
use Rattle.std.proofs.lemmas.Bool.Decides.{nat_tests}
use Rattle.std.specs.Int.{is_in_range}
use Rattle.std.specs.Str.Lossy.{second_byte_min, second_byte_max}
use Rattle.compact_codec.specs.Utf8Table.{TableRow, FitsRow, FitsSomeRow, sequence_table, trailing_bytes, IsInByteRange}
use Rattle.compact_codec.specs.Utf8Table.{IsWellFormedSequence}
use Rattle.compact_codec.specs.InvalidSequence.{IsPrefixOfSequence}

-- the bytes fit the start of a row
abbrev pub Begins : TableRow → List ℕ → Type 0
Begins rs [] = Unit {0}
Begins [] (b ∷ bs) = ⊥
Begins (r ∷ rs) (b ∷ bs) = IsInByteRange r b × Begins rs bs

abbrev pub BeginsOneOf : List TableRow → List ℕ → Type 0
BeginsOneOf [] bs = ⊥
BeginsOneOf (row ∷ rows) bs = Begins row bs ⊎ BeginsOneOf rows bs

-- each range of the row has a byte in it
abbrev HasBytes : TableRow → Type 0
HasBytes [] = Unit {0}
HasBytes (r ∷ rs) = (r.least ≤ r.most) × HasBytes rs

abbrev AllHaveBytes : List TableRow → Type 0
AllHaveBytes [] = Unit {0}
AllHaveBytes (row ∷ rows) = HasBytes row × AllHaveBytes rows

begins_row : (rs : TableRow) (bs more : List ℕ) → FitsRow rs (bs ++ more) → Begins rs bs
begins_row rs [] more f = tt
begins_row [] (b ∷ bs) more f = absurd f
begins_row (r ∷ rs) (b ∷ bs) more f = (f.0, begins_row rs bs more f.1)

completed_row : (rs : TableRow) (bs : List ℕ) → HasBytes rs → Begins rs bs → (more : List ℕ) × FitsRow rs (bs ++ more)
completed_row [] [] h f = ([], tt)
completed_row (r ∷ rs) [] h f =
    let least_is_in : IsInByteRange r r.least = (omega arith, h.0) in
    let rest = completed_row rs [] h.1 tt in
    (r.least ∷ rest.0, (least_is_in, rest.1))
completed_row [] (b ∷ bs) h f = absurd f
completed_row (r ∷ rs) (b ∷ bs) h f = let rest = completed_row rs bs h.1 f.1 in (rest.0, (f.0, rest.1))

begins_one : (rows : List TableRow) (bs more : List ℕ) → FitsSomeRow rows (bs ++ more) → BeginsOneOf rows bs
begins_one [] bs more f = f
begins_one (row ∷ rows) bs more f = ⊎_elim (λ here. inl (begins_row row bs more here))
    (λ later. inr (begins_one rows bs more later)) f

completed_one : (rows : List TableRow) (bs : List ℕ) → AllHaveBytes rows → BeginsOneOf rows bs
    → (more : List ℕ) × FitsSomeRow rows (bs ++ more)
completed_one [] bs h f = absurd f
completed_one (row ∷ rows) bs h f = ⊎_elim
    (λ here. let rest = completed_row row bs h.0 here in (rest.0, inl rest.1))
    (λ later. let rest = completed_one rows bs h.1 later in (rest.0, inr rest.1))
    f

pub begins_from : (bs : List ℕ) → IsPrefixOfSequence bs → BeginsOneOf sequence_table bs
begins_from bs h = begins_one sequence_table bs h.0 h.1

pub begins_to : (bs : List ℕ) → BeginsOneOf sequence_table bs → IsPrefixOfSequence bs
begins_to bs h =
    let two : HasBytes (trailing_bytes ∷ []) = (omega arith, tt) in
    let three : HasBytes (trailing_bytes ∷ trailing_bytes ∷ []) = (omega arith, two) in
    let full : AllHaveBytes sequence_table = (
      (omega arith, tt),
      (
        (omega arith, two),
        (
          (omega arith, (omega arith, two)),
          (
            (omega arith, three),
            (
              (omega arith, (omega arith, two)),
              (
                (omega arith, three),
                (
                  (omega arith, (omega arith, three)),
                  (
                    (omega arith, (omega arith, three)),
                    ((omega arith, (omega arith, three)), tt),
                  ),
                ),
              ),
            ),
          ),
        ),
      ),
    ) in
    completed_one sequence_table bs full h

-- the byte may begin a sequence of more than one, and the second may follow it
abbrev pub Leads : ℕ → Type 0
Leads a = (0xC2 ≤ a) × (a ≤ 0xF4)

abbrev pub follows : ℕ → ℕ → Bool
follows a b = is_in_range (second_byte_min a) (second_byte_max a) b

-- the row of a first byte
row_cases : (a : ℕ) → Leads a
    → ((0xC2 ≤ a) × (a ≤ 0xDF)) ⊎ ((a ≡ 0xE0) ⊎ (((0xE1 ≤ a) × (a ≤ 0xEC))
    ⊎ ((a ≡ 0xED) ⊎ (((0xEE ≤ a) × (a ≤ 0xEF)) ⊎ ((a ≡ 0xF0) ⊎ (((0xF1 ≤ a) × (a ≤ 0xF3)) ⊎ (a ≡ 0xF4)))))))
row_cases a h =
    ⊎_elim (λ l1. inl (omega arith, omega arith)) (λ g1.
    ⊎_elim (λ l2. inr (inl (omega arith))) (λ g2.
    ⊎_elim (λ l3. inr (inr (inl (omega arith, omega arith)))) (λ g3.
    ⊎_elim (λ l4. inr (inr (inr (inl (omega arith))))) (λ g4.
    ⊎_elim (λ l5. inr (inr (inr (inr (inl (omega arith, omega arith)))))) (λ g5.
    ⊎_elim (λ l6. inr (inr (inr (inr (inr (inl (omega arith))))))) (λ g6.
    ⊎_elim (λ l7. inr (inr (inr (inr (inr (inr (inl (omega arith, omega arith)))))))) (λ g7.
    inr (inr (inr (inr (inr (inr (inr (omega arith))))))))
    (cases_lt a 0xF4))
    (cases_lt a 0xF1))
    (cases_lt a 0xF0))
    (cases_lt a 0xEE))
    (cases_lt a 0xED))
    (cases_lt a 0xE1))
    (cases_lt a 0xE0)

pub one_begins : (a : ℕ) → Leads a → IsPrefixOfSequence (a ∷ [])
one_begins a h = begins_to (a ∷ [])
    (⊎_elim (λ is. inr (inl (((omega arith, omega arith), tt))))
    (⊎_elim (λ is. inr (inr (inl (((omega arith, omega arith), tt)))))
    (⊎_elim (λ is. inr (inr (inr (inl (((omega arith, omega arith), tt))))))
    (⊎_elim (λ is. inr (inr (inr (inr (inl (((omega arith, omega arith), tt)))))))
    (⊎_elim (λ is. inr (inr (inr (inr (inr (inl (((omega arith, omega arith), tt))))))))
    (⊎_elim (λ is. inr (inr (inr (inr (inr (inr (inl (((omega arith, omega arith), tt)))))))))
    (⊎_elim (λ is. inr (inr (inr (inr (inr (inr (inr (inl (((omega arith, omega arith), tt))))))))))
    ((λ is. inr (inr (inr (inr (inr (inr (inr (inr (inl (((omega arith, omega arith), tt))))))))))))))))))
    (row_cases a h))

pub two_begin : (a b : ℕ) → Leads a → follows a b ≡ true → IsPrefixOfSequence (a ∷ b ∷ [])
two_begin a b h f = begins_to (a ∷ b ∷ [])
    (⊎_elim (λ is. let second : (0x80 ≤ b) × (b ≤ 0xBF) = grind (arith, nat_tests) in
    inr (inl (((omega arith, omega arith), (second, tt)))))
    (⊎_elim (λ is. let second : (0xA0 ≤ b) × (b ≤ 0xBF) = grind (arith, nat_tests) in
    inr (inr (inl (((omega arith, omega arith), (second, tt))))))
    (⊎_elim (λ is. let second : (0x80 ≤ b) × (b ≤ 0xBF) = grind (arith, nat_tests) in
    inr (inr (inr (inl (((omega arith, omega arith), (second, tt)))))))
    (⊎_elim (λ is. let second : (0x80 ≤ b) × (b ≤ 0x9F) = grind (arith, nat_tests) in
    inr (inr (inr (inr (inl (((omega arith, omega arith), (second, tt))))))))
    (⊎_elim (λ is. let second : (0x80 ≤ b) × (b ≤ 0xBF) = grind (arith, nat_tests) in
    inr (inr (inr (inr (inr (inl (((omega arith, omega arith), (second, tt)))))))))
    (⊎_elim (λ is. let second : (0x90 ≤ b) × (b ≤ 0xBF) = grind (arith, nat_tests) in
    inr (inr (inr (inr (inr (inr (inl (((omega arith, omega arith), (second, tt))))))))))
    (⊎_elim (λ is. let second : (0x80 ≤ b) × (b ≤ 0xBF) = grind (arith, nat_tests) in
    inr (inr (inr (inr (inr (inr (inr (inl (((omega arith, omega arith), (second, tt)))))))))))
    ((λ is. let second : (0x80 ≤ b) × (b ≤ 0x8F) = grind (arith, nat_tests) in
    inr (inr (inr (inr (inr (inr (inr (inr (inl (((omega arith, omega arith), (second, tt)))))))))))))))))))
    (row_cases a h))

pub three_begin : (a b d : ℕ) → 0xE0 ≤ a → Leads a → follows a b ≡ true → IsInByteRange trailing_bytes d
    → IsPrefixOfSequence (a ∷ b ∷ d ∷ [])
three_begin a b d wide h f id = begins_to (a ∷ b ∷ d ∷ [])
    (⊎_elim (λ is. absurd (omega arith))
    (⊎_elim (λ is. let second : (0xA0 ≤ b) × (b ≤ 0xBF) = grind (arith, nat_tests) in
    inr (inr (inl (((omega arith, omega arith), (second, (id, tt)))))))
    (⊎_elim (λ is. let second : (0x80 ≤ b) × (b ≤ 0xBF) = grind (arith, nat_tests) in
    inr (inr (inr (inl (((omega arith, omega arith), (second, (id, tt))))))))
    (⊎_elim (λ is. let second : (0x80 ≤ b) × (b ≤ 0x9F) = grind (arith, nat_tests) in
    inr (inr (inr (inr (inl (((omega arith, omega arith), (second, (id, tt)))))))))
    (⊎_elim (λ is. let second : (0x80 ≤ b) × (b ≤ 0xBF) = grind (arith, nat_tests) in
    inr (inr (inr (inr (inr (inl (((omega arith, omega arith), (second, (id, tt))))))))))
    (⊎_elim (λ is. let second : (0x90 ≤ b) × (b ≤ 0xBF) = grind (arith, nat_tests) in
    inr (inr (inr (inr (inr (inr (inl (((omega arith, omega arith), (second, (id, tt)))))))))))
    (⊎_elim (λ is. let second : (0x80 ≤ b) × (b ≤ 0xBF) = grind (arith, nat_tests) in
    inr (inr (inr (inr (inr (inr (inr (inl (((omega arith, omega arith), (second, (id, tt))))))))))))
    ((λ is. let second : (0x80 ≤ b) × (b ≤ 0x8F) = grind (arith, nat_tests) in
    inr (inr (inr (inr (inr (inr (inr (inr (inl (((omega arith, omega arith), (second, (id, tt))))))))))))))))))))
    (row_cases a h))

pub one_from : (a : ℕ) → IsPrefixOfSequence (a ∷ []) → (a ≤ 0x7F) ⊎ Leads a
one_from a h =
    ⊎_elim (λ f. inl f.0.1)
    (⊎_elim (λ f. inr (omega arith, omega arith))
    (⊎_elim (λ f. inr (omega arith, omega arith))
    (⊎_elim (λ f. inr (omega arith, omega arith))
    (⊎_elim (λ f. inr (omega arith, omega arith))
    (⊎_elim (λ f. inr (omega arith, omega arith))
    (⊎_elim (λ f. inr (omega arith, omega arith))
    (⊎_elim (λ f. inr (omega arith, omega arith))
    (⊎_elim (λ f. inr (omega arith, omega arith))
    ((λ none. absurd none))))))))))
    (begins_from (a ∷ []) h)

pub two_from : (a b : ℕ) (rest : List ℕ) → IsPrefixOfSequence (a ∷ b ∷ rest) → Leads a × (follows a b ≡ true)
two_from a b rest h =
    ⊎_elim (λ f. absurd f.1)
    (⊎_elim (λ f. let first = f.0 in let second = f.1.0 in ((omega arith, omega arith), grind (arith, nat_tests)))
    (⊎_elim (λ f. let first = f.0 in let second = f.1.0 in ((omega arith, omega arith), grind (arith, nat_tests)))
    (⊎_elim (λ f. let first = f.0 in let second = f.1.0 in ((omega arith, omega arith), grind (arith, nat_tests)))
    (⊎_elim (λ f. let first = f.0 in let second = f.1.0 in ((omega arith, omega arith), grind (arith, nat_tests)))
    (⊎_elim (λ f. let first = f.0 in let second = f.1.0 in ((omega arith, omega arith), grind (arith, nat_tests)))
    (⊎_elim (λ f. let first = f.0 in let second = f.1.0 in ((omega arith, omega arith), grind (arith, nat_tests)))
    (⊎_elim (λ f. let first = f.0 in let second = f.1.0 in ((omega arith, omega arith), grind (arith, nat_tests)))
    (⊎_elim (λ f. let first = f.0 in let second = f.1.0 in ((omega arith, omega arith), grind (arith, nat_tests)))
    ((λ none. absurd none))))))))))
    (begins_from (a ∷ b ∷ rest) h)

pub three_from : (a b d : ℕ) (rest : List ℕ) → IsPrefixOfSequence (a ∷ b ∷ d ∷ rest)
    → (0xE0 ≤ a) × IsInByteRange trailing_bytes d
three_from a b d rest h =
    ⊎_elim (λ f. absurd f.1)
    (⊎_elim (λ f. absurd f.1.1)
    (⊎_elim (λ f. let first = f.0 in (omega arith, f.1.1.0))
    (⊎_elim (λ f. let first = f.0 in (omega arith, f.1.1.0))
    (⊎_elim (λ f. let first = f.0 in (omega arith, f.1.1.0))
    (⊎_elim (λ f. let first = f.0 in (omega arith, f.1.1.0))
    (⊎_elim (λ f. let first = f.0 in (omega arith, f.1.1.0))
    (⊎_elim (λ f. let first = f.0 in (omega arith, f.1.1.0))
    (⊎_elim (λ f. let first = f.0 in (omega arith, f.1.1.0))
    ((λ none. absurd none))))))))))
    (begins_from (a ∷ b ∷ d ∷ rest) h)

pub four_from : (a b d e : ℕ) (rest : List ℕ) → IsPrefixOfSequence (a ∷ b ∷ d ∷ e ∷ rest)
    → IsWellFormedSequence (a ∷ b ∷ d ∷ e ∷ [])
four_from a b d e rest h =
    ⊎_elim (λ f. absurd f.1)
    (⊎_elim (λ f. absurd f.1.1)
    (⊎_elim (λ f. absurd f.1.1.1)
    (⊎_elim (λ f. absurd f.1.1.1)
    (⊎_elim (λ f. absurd f.1.1.1)
    (⊎_elim (λ f. absurd f.1.1.1)
    (⊎_elim (λ f. inr (inr (inr (inr (inr (inr (inl ((f.0, (f.1.0, (f.1.1.0, (f.1.1.1.0, tt))))))))))))
    (⊎_elim (λ f. inr (inr (inr (inr (inr (inr (inr (inl ((f.0, (f.1.0, (f.1.1.0, (f.1.1.1.0, tt)))))))))))))
    (⊎_elim (λ f. inr (inr (inr (inr (inr (inr (inr (inr (inl ((f.0, (f.1.0, (f.1.1.0, (f.1.1.1.0, tt))))))))))))))
    ((λ none. absurd none))))))))))
    (begins_from (a ∷ b ∷ d ∷ e ∷ rest) h)

pub begins_well_formed : (bs : List ℕ) → IsWellFormedSequence bs → IsPrefixOfSequence bs
begins_well_formed bs well = ([], subst IsWellFormedSequence (sym (append-nil bs)) well)
