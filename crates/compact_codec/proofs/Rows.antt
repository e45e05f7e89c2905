-- Table 3-7 and the encodings of characters.
use Rattle.std.proofs.Common.{◌≡◌, ℕ, ◌+◌, ◌-◌, ◌*◌, ◌/◌, ◌%◌, ◌<◌, ◌≤◌, ◌⊎◌, true, List, [], ◌∷◌, ◌++◌, refl, sym, ap}
use Rattle.std.proofs.Common.{subst, ◌∙◌, arith, inl, inr, ⊎_elim, drop}
use Rattle.std.specs.Char.{IsScalar, encode_utf8}
use Rattle.std.proofs.lemmas.Bool.{cases_lt, lt-ltb, le-ltb}
use Rattle.std.proofs.lemmas.Str.{encode_same}
use lib.Utf8.{scalar, scalar_cases, low_scalar}
use Rattle.compact_text.proofs.Encodings.{encode_one, encode_two, encode_three, encode_four}
use Rattle.compact_codec.specs.Utf8Table.{ByteRange, TableRow, FitsRow, FitsSomeRow, sequence_table, trailing_bytes}
use Rattle.compact_codec.specs.Utf8Table.{byte_range, IsInByteRange, IsWellFormedSequence, IsOneCharacter, RowsAreApart}
use Rattle.compact_codec.specs.Utf8Table.{TableIsTheEncodings}

pub high_scalar : (c : ℕ) → 0xE000 ≤ c → c < 0x11_0000 → scalar c ≡ true
high_scalar c low high = grind (arith, le-ltb, lt-ltb)

-- from bytes in a row to the character

one_of : (a : ℕ) → a ≤ 0x7F → IsOneCharacter (a ∷ [])
one_of a h = (a, low_scalar a (omega arith), encode_one a (omega arith))

two_of : (a b : ℕ) → 0xC2 ≤ a → a ≤ 0xDF → 0x80 ≤ b → b ≤ 0xBF → IsOneCharacter (a ∷ b ∷ [])
two_of a b la ha lb hb =
    let c = (a - 0xC0) * 64 + (b - 0x80) in
    let p : 192 + c / 64 ≡ a = omega arith in
    let q : 128 + c % 64 ≡ b = omega arith in
    (c, low_scalar c (omega arith), encode_two c (omega arith) (omega arith) ∙ (λ i. p i ∷ q i ∷ []))

three_of : (a b d c : ℕ) → c ≡ (a - 0xE0) * 4096 + (b - 0x80) * 64 + (d - 0x80) → 0xE0 ≤ a → a ≤ 0xEF → 0x80 ≤ b
    → b ≤ 0xBF → 0x80 ≤ d → d ≤ 0xBF
    → 0x800 ≤ c → scalar c ≡ true → IsOneCharacter (a ∷ b ∷ d ∷ [])
three_of a b d c is la ha lb hb ld hd low s =
    let p : 224 + c / 4096 ≡ a = omega arith in
    let q : 128 + (c / 64) % 64 ≡ b = omega arith in
    let r : 128 + c % 64 ≡ d = omega arith in
    (c, s, encode_three c low (omega arith) ∙ (λ i. p i ∷ q i ∷ r i ∷ []))

four_of : (a b d e c : ℕ) → c ≡ (a - 0xF0) * 262144 + (b - 0x80) * 4096 + (d - 0x80) * 64 + (e - 0x80) → 0xF0 ≤ a
    → a ≤ 0xF4 → 0x80 ≤ b → b ≤ 0xBF → 0x80 ≤ d → d ≤ 0xBF → 0x80 ≤ e → e ≤ 0xBF
    → 0x1_0000 ≤ c → c < 0x11_0000 → IsOneCharacter (a ∷ b ∷ d ∷ e ∷ [])
four_of a b d e c is la ha lb hb ld hd le he low high =
    let p : 240 + c / 262144 ≡ a = omega arith in
    let q : 128 + (c / 4096) % 64 ≡ b = omega arith in
    let m : c / 64 ≡ (a - 0xF0) * 4096 + (b - 0x80) * 64 + (d - 0x80) = omega arith in
    let r : 128 + (c / 64) % 64 ≡ d = omega arith in
    let t : 128 + c % 64 ≡ e = omega arith in
    (c, high_scalar c (omega arith) high, encode_four c low ∙ (λ i. p i ∷ q i ∷ r i ∷ t i ∷ []))

-- the bytes of a row, one by one

pub fits_one : (r : ByteRange) (bs : List ℕ) → FitsRow (r ∷ []) bs → (a : ℕ) × IsInByteRange r a × (bs ≡ a ∷ [])
fits_one r [] f = absurd f
fits_one r (a ∷ []) f = (a, f.0, refl)
fits_one r (a ∷ b ∷ bs) f = absurd f.1

pub fits_two : (r s : ByteRange) (bs : List ℕ) → FitsRow (r ∷ s ∷ []) bs
    → (a : ℕ) × (b : ℕ) × IsInByteRange r a × IsInByteRange s b × (bs ≡ a ∷ b ∷ [])
fits_two r s [] f = absurd f
fits_two r s (a ∷ bs) f = let t = fits_one s bs f.1 in (a, t.0, f.0, t.1, ap (λ l. a ∷ l) t.2)

pub fits_three : (r s t : ByteRange) (bs : List ℕ) → FitsRow (r ∷ s ∷ t ∷ []) bs
    → (a : ℕ) × (b : ℕ) × (d : ℕ) × IsInByteRange r a × IsInByteRange s b × IsInByteRange t d × (bs ≡ a ∷ b ∷ d ∷ [])
fits_three r s t [] f = absurd f
fits_three r s t (a ∷ bs) f = let u = fits_two s t bs f.1 in (a, u.0, u.1, f.0, u.2, u.3, ap (λ l. a ∷ l) u.4)

pub fits_four : (r s t v : ByteRange) (bs : List ℕ) → FitsRow (r ∷ s ∷ t ∷ v ∷ []) bs
    → (a : ℕ) × (b : ℕ) × (d : ℕ) × (e : ℕ) × IsInByteRange r a × IsInByteRange s b × IsInByteRange t d
    × IsInByteRange v e × (bs ≡ a ∷ b ∷ d ∷ e ∷ [])
fits_four r s t v [] f = absurd f
fits_four r s t v (a ∷ bs) f = let u = fits_three s t v bs f.1 in
    (a, u.0, u.1, u.2, f.0, u.3, u.4, u.5, ap (λ l. a ∷ l) u.6)

abbrev value_of_three : ℕ → ℕ → ℕ → ℕ
value_of_three a b d = (a - 0xE0) * 4096 + (b - 0x80) * 64 + (d - 0x80)

-- rows of three and four whose numbers are those of characters
array_of_three : (r s : ByteRange) → ((a b d : ℕ) → IsInByteRange r a → IsInByteRange s b
    → IsInByteRange trailing_bytes d
    → (0xE0 ≤ a) × (a ≤ 0xEF) × (0x80 ≤ b) × (b ≤ 0xBF) × (0x800 ≤ (a - 0xE0) * 4096 + (b - 0x80) * 64 + (d - 0x80))
    × IsScalar ((a - 0xE0) * 4096 + (b - 0x80) * 64 + (d - 0x80)))
    → (bs : List ℕ) → FitsRow (r ∷ s ∷ trailing_bytes ∷ []) bs → IsOneCharacter bs
array_of_three r s known bs f =
    let t = fits_three r s trailing_bytes bs f in
    let k = known t.0 t.1 t.2 t.3 t.4 t.5 in
    subst IsOneCharacter (sym t.6) (three_of t.0 t.1 t.2 _ refl k.0 k.1 k.2 k.3 t.5.0 t.5.1 k.4 k.5)

row_of_four : (r s : ByteRange) → ((a b : ℕ) → IsInByteRange r a → IsInByteRange s b
    → (0xF0 ≤ a) × (a ≤ 0xF4) × (0x80 ≤ b) × (b ≤ 0xBF) × (16 ≤ (a - 0xF0) * 64 + (b - 0x80))
    × ((a - 0xF0) * 64 + (b - 0x80) < 272))
    → (bs : List ℕ) → FitsRow (r ∷ s ∷ trailing_bytes ∷ trailing_bytes ∷ []) bs → IsOneCharacter bs
row_of_four r s known bs f =
    let t = fits_four r s trailing_bytes trailing_bytes bs f in
    let k = known t.0 t.1 t.4 t.5 in
    let a = t.0 in let b = t.1 in let d = t.2 in let e = t.3 in
    let d_in : IsInByteRange trailing_bytes d = t.6 in
    let e_in : IsInByteRange trailing_bytes e = t.7 in
    subst IsOneCharacter (sym t.8) (four_of a b d e _ refl k.0 k.1 k.2 k.3 d_in.0 d_in.1 e_in.0 e_in.1
    (omega (arith, k, d_in, e_in)) (omega (arith, k, d_in, e_in)))

pub character-IsWellFormedSequence : (bs : List ℕ) → IsWellFormedSequence bs → IsOneCharacter bs
character-IsWellFormedSequence bs h =
    ⊎_elim (λ f. let t = fits_one _ bs f in subst IsOneCharacter (sym t.2) (one_of t.0 t.1.1))
    (⊎_elim (λ f. let t = fits_two _ _ bs f in subst IsOneCharacter (sym t.4) (two_of t.0 t.1 t.2.0 t.2.1 t.3.0 t.3.1))
    (⊎_elim (array_of_three (byte_range 0xE0 0xE0) (byte_range 0xA0 0xBF)
    (λ a b d ia ib id. (
      omega arith,
      omega arith,
      omega arith,
      omega arith,
      omega arith,
      low_scalar (value_of_three a b d) (omega arith),
    )) bs)
    (⊎_elim (array_of_three (byte_range 0xE1 0xEC) trailing_bytes
    (λ a b d ia ib id. (
      omega arith,
      omega arith,
      omega arith,
      omega arith,
      omega arith,
      low_scalar (value_of_three a b d) (omega arith),
    )) bs)
    (⊎_elim (array_of_three (byte_range 0xED 0xED) (byte_range 0x80 0x9F)
    (λ a b d ia ib id. (
      omega arith,
      omega arith,
      omega arith,
      omega arith,
      omega arith,
      low_scalar (value_of_three a b d) (omega arith),
    )) bs)
    (⊎_elim (array_of_three (byte_range 0xEE 0xEF) trailing_bytes
    (λ a b d ia ib id. (
      omega arith,
      omega arith,
      omega arith,
      omega arith,
      omega arith,
      high_scalar (value_of_three a b d) (omega arith) (omega arith),
    )) bs)
    (⊎_elim (row_of_four (byte_range 0xF0 0xF0) (byte_range 0x90 0xBF)
    (λ a b ia ib. (omega arith, omega arith, omega arith, omega arith, omega arith, omega arith)) bs)
    (⊎_elim (row_of_four (byte_range 0xF1 0xF3) trailing_bytes
    (λ a b ia ib. (omega arith, omega arith, omega arith, omega arith, omega arith, omega arith)) bs)
    (⊎_elim (row_of_four (byte_range 0xF4 0xF4) (byte_range 0x80 0x8F)
    (λ a b ia ib. (omega arith, omega arith, omega arith, omega arith, omega arith, omega arith)) bs)
    (λ none. absurd none))))))))) h

-- from a character to its row

two_bytes : (a b : ℕ) → 0xC2 ≤ a → a ≤ 0xDF → IsInByteRange trailing_bytes b → IsWellFormedSequence (a ∷ b ∷ [])
two_bytes a b la ha ib = inr (inl (((la, ha), (ib, tt))))

three_bytes : (a b d : ℕ) → IsInByteRange trailing_bytes d
    → ((a ≡ 0xE0) × IsInByteRange (byte_range 0xA0 0xBF) b)
    ⊎ ((IsInByteRange (byte_range 0xE1 0xEC) a × IsInByteRange trailing_bytes b)
    ⊎ (((a ≡ 0xED) × IsInByteRange (byte_range 0x80 0x9F) b)
    ⊎ (IsInByteRange (byte_range 0xEE 0xEF) a × IsInByteRange trailing_bytes b)))
    → IsWellFormedSequence (a ∷ b ∷ d ∷ [])
three_bytes a b d id h =
    ⊎_elim (λ p. let e = p.0 in inr (inr (inl (((omega arith, omega arith), (p.1, (id, tt)))))))
    (⊎_elim (λ p. inr (inr (inr (inl ((p.0, (p.1, (id, tt))))))))
    (⊎_elim (λ p. let e = p.0 in inr (inr (inr (inr (inl (((omega arith, omega arith), (p.1, (id, tt)))))))))
    (λ p. inr (inr (inr (inr (inr (inl ((p.0, (p.1, (id, tt))))))))))))
    h

four_bytes : (a b d e : ℕ) → IsInByteRange trailing_bytes d → IsInByteRange trailing_bytes e
    → ((a ≡ 0xF0) × IsInByteRange (byte_range 0x90 0xBF) b)
    ⊎ ((IsInByteRange (byte_range 0xF1 0xF3) a × IsInByteRange trailing_bytes b)
    ⊎ ((a ≡ 0xF4) × IsInByteRange (byte_range 0x80 0x8F) b))
    → IsWellFormedSequence (a ∷ b ∷ d ∷ e ∷ [])
four_bytes a b d e id ie h =
    ⊎_elim (λ p. let same = p.0 in inr (inr (inr (inr (inr (inr
    (inl (((omega arith, omega arith), (p.1, (id, (ie, tt))))))))))))
    (⊎_elim (λ p. inr (inr (inr (inr (inr (inr (inr (inl ((p.0, (p.1, (id, (ie, tt)))))))))))))
    (λ p. let same = p.0 in inr (inr (inr (inr (inr (inr (inr
    (inr (inl (((omega arith, omega arith), (p.1, (id, (ie, tt)))))))))))))))
    h

wide_three : (c : ℕ) → 0x800 ≤ c → c < 0x1_0000 → (c < 0xD800) ⊎ (0xE000 ≤ c)
    → IsWellFormedSequence ((224 + c / 4096) ∷ (128 + (c / 64) % 64) ∷ (128 + c % 64) ∷ [])
wide_three c low high apart =
    let a = 224 + c / 4096 in
    let b = 128 + (c / 64) % 64 in
    let d = 128 + c % 64 in
    let id : IsInByteRange trailing_bytes d = (omega arith, omega arith) in
    ⊎_elim
    (λ below. three_bytes a b d id (inl (omega arith, (omega arith, omega arith))))
    (λ from. ⊎_elim
    (λ below. three_bytes a b d id (inr (inl ((omega arith, omega arith), (omega arith, omega arith)))))
    (λ last. ⊎_elim
    (λ below. three_bytes a b d id (inr (inr (inl (omega arith, (omega arith, omega arith))))))
    (λ above. three_bytes a b d id (inr (inr (inr ((omega arith, omega arith), (omega arith, omega arith))))))
    apart)
    (cases_lt c 0xD000))
    (cases_lt c 0x1000)

wide_four : (c : ℕ) → 0x1_0000 ≤ c → c < 0x11_0000
    → IsWellFormedSequence ((240 + c / 262144) ∷ (128 + (c / 4096) % 64) ∷ (128 + (c / 64) % 64) ∷ (128 + c % 64) ∷ [])
wide_four c low high =
    let a = 240 + c / 262144 in
    let b = 128 + (c / 4096) % 64 in
    let d = 128 + (c / 64) % 64 in
    let e = 128 + c % 64 in
    let id : IsInByteRange trailing_bytes d = (omega arith, omega arith) in
    let ie : IsInByteRange trailing_bytes e = (omega arith, omega arith) in
    ⊎_elim
    (λ below. four_bytes a b d e id ie (inl (omega arith, (omega arith, omega arith))))
    (λ from. ⊎_elim
    (λ below. four_bytes a b d e id ie (inr (inl ((omega arith, omega arith), (omega arith, omega arith)))))
    (λ last. four_bytes a b d e id ie (inr (inr (omega arith, (omega arith, omega arith)))))
    (cases_lt c 0x10_0000))
    (cases_lt c 0x4_0000)

pub IsWellFormedSequence-encode : (c : ℕ) → IsScalar c → IsWellFormedSequence (encode_utf8 c)
IsWellFormedSequence-encode c is =
    let parts : (c < 0xD800) ⊎ ((0xE000 ≤ c) × (c < 0x11_0000)) = scalar_cases c is in
    let top : c < 0x11_0000 = ⊎_elim (λ low. omega arith) (λ high. high.1) parts in
    let apart : (c < 0xD800) ⊎ (0xE000 ≤ c) = ⊎_elim (λ low. inl low) (λ high. inr high.0) parts in
    ⊎_elim
    (λ one. subst IsWellFormedSequence (sym (encode_one c one)) (inl ((omega arith, omega arith), tt)))
    (λ more. ⊎_elim
    (λ two. subst IsWellFormedSequence (sym (encode_two c more two))
    (two_bytes (192 + c / 64) (128 + c % 64) (omega arith) (omega arith) (omega arith, omega arith)))
    (λ wide. ⊎_elim
    (λ three. subst IsWellFormedSequence (sym (encode_three c wide three)) (wide_three c wide three apart))
    (λ four. subst IsWellFormedSequence (sym (encode_four c four)) (wide_four c four top))
    (cases_lt c 0x1_0000))
    (cases_lt c 0x800))
    (cases_lt c 0x80)

-- rows with greater first bytes share no bytes with a row
abbrev BeginsAbove : ℕ → List TableRow → Type 0
BeginsAbove k [] = Unit {0}
BeginsAbove k ([] ∷ rows) = ⊥
BeginsAbove k ((r ∷ rs) ∷ rows) = (k < r.least) × BeginsAbove k rows

no_later : (k a : ℕ) (bs : List ℕ) (rows : List TableRow) → a ≤ k → BeginsAbove k rows → ¬ (FitsSomeRow rows (a ∷ bs))
no_later k a bs [] low above fits = fits
no_later k a bs ([] ∷ rows) low above fits = above
no_later k a bs ((r ∷ rs) ∷ rows) low above fits = ⊎_elim
    (λ (here : FitsRow (r ∷ rs) (a ∷ bs)). let from = here.0.0 in let beyond = above.0 in omega arith)
    (λ later. no_later k a bs rows low above.1 later)
    fits

apart : (r : ByteRange) (rs : TableRow) (rows : List TableRow) → BeginsAbove r.most rows → (bs : List ℕ)
    → FitsRow (r ∷ rs) bs → ¬ (FitsSomeRow rows bs)
apart r rs rows above [] fits = absurd fits
apart r rs rows above (a ∷ bs) fits = no_later r.most a bs rows fits.0.1 above

table_is_apart : RowsAreApart sequence_table
table_is_apart =
    let row_1 = apart (byte_range 0x00 0x7F) [] (drop 1 sequence_table) (
      omega arith,
      (
        omega arith,
        (
          omega arith,
          (
            omega arith,
            (omega arith, (omega arith, (omega arith, (omega arith, tt)))),
          ),
        ),
      ),
    ) in
    let row_2 = apart (byte_range 0xC2 0xDF) (trailing_bytes ∷ []) (drop 2 sequence_table)
    (omega arith, (omega arith, (omega arith, (omega arith, (omega arith, (omega arith, (omega arith, tt))))))) in
    let row_3 = apart (byte_range 0xE0 0xE0) (byte_range 0xA0 0xBF ∷ trailing_bytes ∷ []) (drop 3 sequence_table)
    (omega arith, (omega arith, (omega arith, (omega arith, (omega arith, (omega arith, tt)))))) in
    let row_4 = apart (byte_range 0xE1 0xEC) (trailing_bytes ∷ trailing_bytes ∷ []) (drop 4 sequence_table)
    (omega arith, (omega arith, (omega arith, (omega arith, (omega arith, tt))))) in
    let row_5 = apart (byte_range 0xED 0xED) (byte_range 0x80 0x9F ∷ trailing_bytes ∷ []) (drop 5 sequence_table)
    (omega arith, (omega arith, (omega arith, (omega arith, tt)))) in
    let row_6 = apart (byte_range 0xEE 0xEF) (trailing_bytes ∷ trailing_bytes ∷ []) (drop 6 sequence_table)
    (omega arith, (omega arith, (omega arith, tt))) in
    let row_7 = apart (byte_range 0xF0 0xF0) (byte_range 0x90 0xBF ∷ trailing_bytes ∷ trailing_bytes ∷ [])
    (drop 7 sequence_table) (omega arith, (omega arith, tt)) in
    let row_8 = apart (byte_range 0xF1 0xF3) (trailing_bytes ∷ trailing_bytes ∷ trailing_bytes ∷ [])
    (drop 8 sequence_table) (omega arith, tt) in
    let row_9 = apart (byte_range 0xF4 0xF4) (byte_range 0x80 0x8F ∷ trailing_bytes ∷ trailing_bytes ∷ [])
    (drop 9 sequence_table) tt in
    (row_1, (row_2, (row_3, (row_4, (row_5, (row_6, (row_7, (row_8, (row_9, tt)))))))))

pub table_is : TableIsTheEncodings
table_is = record {
  encodings = λ bs. (
    character-IsWellFormedSequence bs,
    λ one. subst IsWellFormedSequence one.2
        (IsWellFormedSequence-encode one.0 one.1),
  );
  one_row = table_is_apart;
  one_character = λ c d c_is d_is same. (encode_same c d [] [] (ap (λ l. l ++ []) same)).0;
}
