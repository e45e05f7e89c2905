-- The longest valid prefix and the invalid sequence after it, beside std's definitions.
use Rattle.std.proofs.Common.{◌≡◌, ℕ, zero, suc, ◌+◌, ◌<◌, ◌≤◌, ◌⊎◌, true, false, cond, List, [], ◌∷◌, length, take}
use Rattle.std.proofs.Common.{drop, Option, Some, None, slice_index, IsUtf8, encode_utf8, refl, sym, ap, subst, ◌∙◌}
use Rattle.std.proofs.Common.{arith, inl, inr, ⊎_elim, true≢false, append-nil, length-drop, take_all, take-add, min}
use Rattle.std.proofs.Common.{◌-◌, ◌&&◌, Bool, ◌++◌, encode_utf8_all, take-append-drop, drop-drop, take_at, le_refl, not, leb, get_or}
use Rattle.std.specs.Prelude.{◌==◌, nat_lt, IsNone}
use Rattle.std.specs.Int.{is_in_range}
use Rattle.std.specs.Str.{is_utf8, IsAscii}
use Rattle.std.specs.Str.Lossy.{valid_len_up_to, utf8_valid_len, utf8_error_len, error_len_after_two}
use Rattle.std.specs.Str.Lossy.{error_len_after_one, error_len_of_some}
use Rattle.std.proofs.lemmas.Bool.{cases_Bool, cases_lt, cond-true, cond-false, cond_both, eqb-true, ltb-true}
use Rattle.std.proofs.lemmas.Bool.{ltb-false, and_from, leb-false, not-true}
use Rattle.std.proofs.lemmas.Bool.Decides.{nat_tests}
use Rattle.std.proofs.lemmas.Str.{IsUtf8-nil, IsUtf8-from_is_utf8, is_utf8-from_IsUtf8, IsUtf8-append, IsUtf8-drop, IsAscii-append}
use Rattle.std.proofs.lemmas.Str.{IsAscii-take, IsUtf8-from_ascii, IsCharBoundary-from_take, length-encode}
use Rattle.std.proofs.lemmas.Str.{len_utf8_bounds}
use Rattle.std.proofs.lemmas.List.{length-take, length-take-le, drop-take, take-take, get_or-take, get_or_past}
use Rattle.std.proofs.lemmas.List.Sums.{prefix_len_passes}
use Rattle.std.specs.List.{prefix_len}
use Rattle.compact_codec.specs.Utf8Table.{trailing_bytes, IsInByteRange, IsWellFormedSequence}
use Rattle.compact_codec.specs.InvalidSequence.{IsLongestValidPrefix, IsPrefixOfSequence, IsUnconvertible}
use Rattle.compact_codec.specs.InvalidSequence.{IsMaximalSubpart, IsErrorLen, IsUtf8Error, Utf8ErrorIsUnique}
use Rattle.compact_codec.proofs.Rows.{character-IsWellFormedSequence, IsWellFormedSequence-encode}
use Rattle.compact_codec.proofs.Beginnings.{Leads, follows, one_begins, two_begin, three_begin, one_from, two_from}
use Rattle.compact_codec.proofs.Beginnings.{three_from, four_from}

-- the longest valid prefix

longest_prefix_up_to : (bs : List ℕ) (m : ℕ)
    → IsUtf8 (take (valid_len_up_to bs m) bs) × ((k : ℕ) → valid_len_up_to bs m < k → k ≤ m → ¬ (IsUtf8 (take k bs)))
    × (valid_len_up_to bs m ≤ m)
longest_prefix_up_to bs zero = (([], (refl, refl)), λ k above within. absurd (omega arith), omega arith)
longest_prefix_up_to bs (suc m) =
    let rest = longest_prefix_up_to bs m in
    ⊎_elim
    (λ yes.
    let is : valid_len_up_to bs (suc m) ≡ suc m = cond-true _ _ _ yes in (
      subst (λ n. IsUtf8 (take n bs)) (sym is) (IsUtf8-from_is_utf8 _ yes),
      λ k above within. absurd (omega arith),
      omega arith,
    ))
    (λ no.
    let is : valid_len_up_to bs (suc m) ≡ valid_len_up_to bs m = cond-false _ _ _ no in
    let low = rest.2 in (
      subst (λ n. IsUtf8 (take n bs)) (sym is) rest.0,
      λ k above within u. ⊎_elim
          (λ (top : m < k).
          let same : k ≡ suc m = omega arith in
          true≢false (sym (is_utf8-from_IsUtf8 _ (subst (λ n. IsUtf8 (take n bs)) same u)) ∙ no))
          (λ (low : k ≤ m). rest.1 k (omega arith) low u)
          (cases_lt m k),
      omega arith,
    ))
    (cases_Bool (is_utf8 (take (suc m) bs)))

pub utf8_valid_len-IsLongestValidPrefix : (bs : List ℕ) → IsLongestValidPrefix bs (utf8_valid_len bs)
unfolding utf8_valid_len
utf8_valid_len-IsLongestValidPrefix bs =
    let all = longest_prefix_up_to bs (length bs) in
    record { within = all.2; prefix = all.0; longest = all.1 }

pub same_valid_prefix : (bs : List ℕ) (n m : ℕ) → IsLongestValidPrefix bs n → IsLongestValidPrefix bs m → n ≡ m
same_valid_prefix bs n m p q =
    let n_within = p.within in
    let m_within = q.within in
    ⊎_elim (λ (less : n < m). absurd (p.longest m less q.within q.prefix))
    (λ (from : m ≤ n). ⊎_elim (λ (less : m < n). absurd (q.longest n less p.within p.prefix))
    (λ (to : n ≤ m). omega arith) (cases_lt m n))
    (cases_lt n m)

pub length-IsWellFormedSequence : (bs : List ℕ) → IsWellFormedSequence bs → 1 ≤ length bs
length-IsWellFormedSequence bs well =
    let one = character-IsWellFormedSequence bs well in
    omega (arith, ap length one.2, length-encode one.0, (len_utf8_bounds one.0).0)

pub IsUtf8-IsWellFormedSequence : (bs : List ℕ) → IsWellFormedSequence bs → IsUtf8 bs
IsUtf8-IsWellFormedSequence bs well =
    let one = character-IsWellFormedSequence bs well in
    (one.0 ∷ [], (and_from _ true one.1 refl, append-nil (encode_utf8 one.0) ∙ one.2))

-- no well-formed sequence follows it
pub unconvertible_after_prefix : (bs : List ℕ) (n : ℕ) → IsLongestValidPrefix bs n → IsUnconvertible (drop n bs)
unconvertible_after_prefix bs n f k well =
    let rest = drop n bs in
    let some = length-IsWellFormedSequence _ well in
    let left = length-drop n bs in
    let taken : length (take k rest) ≡ min k (length rest) = length-take k rest in
    let longer : IsUtf8 (take (n + k) bs) = subst IsUtf8 (sym (take-add n k bs))
    (IsUtf8-append _ _ f.prefix (IsUtf8-IsWellFormedSequence _ well)) in
    ⊎_elim
    (λ (past : length bs < n + k).
    let whole : take (n + k) bs ≡ take (length bs) bs = take_all (n + k) bs (omega arith)
    ∙ sym (take_all (length bs) bs (omega arith)) in
    f.longest (length bs) (omega arith) (omega arith) (subst IsUtf8 whole longer))
    (λ (within : n + k ≤ length bs). f.longest (n + k) (omega arith) within longer)
    (cases_lt (length bs) (n + k))

-- the invalid sequence

pub open_end : (bs : List ℕ) → 1 ≤ length bs → IsUnconvertible bs → IsPrefixOfSequence bs → IsErrorLen bs None
open_end bs some un begins = (
  record {
    some = some;
    within = omega arith;
    unconvertible = un;
    begins = inr (subst IsPrefixOfSequence (sym (take_all (length bs) bs (omega arith))) begins);
    longest = λ m above within. absurd (omega arith);
  },
  (λ _. begins, λ _. refl),
)

closed_part : (bs : List ℕ) (n : ℕ) → 1 ≤ n → n ≤ length bs → IsUnconvertible bs
    → (n ≡ 1) ⊎ IsPrefixOfSequence (take n bs)
    → ((m : ℕ) → n < m → m ≤ length bs → ¬ (IsPrefixOfSequence (take m bs)))
    → (n ≡ length bs → ¬ (IsPrefixOfSequence bs))
    → IsErrorLen bs (Some n)
closed_part bs n some within un begins longest whole = (
  record { some = some; within = within; unconvertible = un; begins = begins; longest = longest },
  (
    λ none. absurd (true≢false none),
    λ all. ⊎_elim
        (λ (less : n < length bs). absurd (longest (length bs) less (omega arith)
        (subst IsPrefixOfSequence (sym (take_all (length bs) bs (omega arith))) all)))
        (λ (from : length bs ≤ n). absurd (whole (omega arith) all))
        (cases_lt n (length bs)),
  ),
)

-- one byte, if it leads no sequence, or the second byte does not follow it
pub one_byte : (bs : List ℕ) → 1 ≤ length bs → IsUnconvertible bs
    → ¬ (Leads (slice_index bs 0)) ⊎ ((2 ≤ length bs) × (follows (slice_index bs 0) (slice_index bs 1) ≡ false))
    → IsErrorLen bs (Some 1)
one_byte [] some un why = absurd (omega arith)
one_byte (a ∷ []) some un why =
    closed_part (a ∷ []) 1 (omega arith) (omega arith) un (inl refl) (λ m above within. absurd (omega arith))
    (λ _ begins. ⊎_elim
    (λ (ascii : a ≤ 0x7F). un 1 (inl ((omega arith, ascii), tt)))
    (λ leads. ⊎_elim (λ no. no leads) (λ long. absurd (omega (arith, long.0))) why)
    (one_from a begins))
one_byte (a ∷ b ∷ rest) some un why =
    let wrong : Leads a × (follows a b ≡ true) → ⊥ = λ p. ⊎_elim (λ no. no p.0)
    (λ long. true≢false (sym p.1 ∙ long.1)) why in
    closed_part (a ∷ b ∷ rest) 1 (omega arith) (omega arith) un (inl refl)
    (longer wrong)
    (λ _ begins. wrong (two_from a b rest begins))
  where
    longer : (Leads a × (follows a b ≡ true) → ⊥) → (m : ℕ) → 1 < m → m ≤ length (a ∷ b ∷ rest)
        → ¬ (IsPrefixOfSequence (take m (a ∷ b ∷ rest)))
    longer wrong zero above within begins = absurd (omega arith)
    longer wrong (suc zero) above within begins = absurd (omega arith)
    longer wrong (suc (suc k)) above within begins = wrong (two_from a b (take k rest) begins)

-- two bytes, if the third does not continue them
pub two_bytes : (bs : List ℕ) → 3 ≤ length bs → IsUnconvertible bs → Leads (slice_index bs 0)
    → follows (slice_index bs 0) (slice_index bs 1) ≡ true
    → ¬ (IsInByteRange trailing_bytes (slice_index bs 2)) → IsErrorLen bs (Some 2)
two_bytes [] long un leads second third = absurd (omega arith)
two_bytes (a ∷ []) long un leads second third = absurd (omega arith)
two_bytes (a ∷ b ∷ []) long un leads second third = absurd (omega arith)
two_bytes (a ∷ b ∷ d ∷ rest) long un leads second third =
    closed_part (a ∷ b ∷ d ∷ rest) 2 (omega arith) (omega arith) un (inr (two_begin a b leads second)) longer
    (λ same. absurd (omega arith))
  where
    longer : (m : ℕ) → 2 < m → m ≤ length (a ∷ b ∷ d ∷ rest) → ¬ (IsPrefixOfSequence (take m (a ∷ b ∷ d ∷ rest)))
    longer zero above within begins = absurd (omega arith)
    longer (suc zero) above within begins = absurd (omega arith)
    longer (suc (suc zero)) above within begins = absurd (omega arith)
    longer (suc (suc (suc k))) above within begins = third (three_from a b d (take k rest) begins).1

-- a first byte of at most DF and one that follows it are a whole sequence
wide : (a b : ℕ) (rest : List ℕ) → IsUnconvertible (a ∷ b ∷ rest) → Leads a → follows a b ≡ true → 0xE0 ≤ a
wide a b rest un leads second = ⊎_elim
    (λ (narrow : a < 0xE0).
    let b_in : (0x80 ≤ b) × (b ≤ 0xBF) = grind (arith, nat_tests) in
    absurd (un 2 (inr (inl ((leads.0, omega arith), (b_in, tt))))))
    (λ (from : 0xE0 ≤ a). from)
    (cases_lt a 0xE0)

-- three bytes, if there is a fourth
pub three_bytes : (bs : List ℕ) → 4 ≤ length bs → IsUnconvertible bs → Leads (slice_index bs 0)
    → follows (slice_index bs 0) (slice_index bs 1) ≡ true
    → IsInByteRange trailing_bytes (slice_index bs 2) → IsErrorLen bs (Some 3)
three_bytes [] long un leads second third = absurd (omega arith)
three_bytes (a ∷ []) long un leads second third = absurd (omega arith)
three_bytes (a ∷ b ∷ []) long un leads second third = absurd (omega arith)
three_bytes (a ∷ b ∷ d ∷ []) long un leads second third = absurd (omega arith)
three_bytes (a ∷ b ∷ d ∷ e ∷ rest) long un leads second third =
    closed_part (a ∷ b ∷ d ∷ e ∷ rest) 3 (omega arith) (omega arith) un
    (inr (three_begin a b d (wide a b (d ∷ e ∷ rest) un leads second) leads second third)) longer
    (λ same. absurd (omega arith))
  where
    longer : (m : ℕ) → 3 < m → m ≤ length (a ∷ b ∷ d ∷ e ∷ rest)
        → ¬ (IsPrefixOfSequence (take m (a ∷ b ∷ d ∷ e ∷ rest)))
    longer zero above within begins = absurd (omega arith)
    longer (suc zero) above within begins = absurd (omega arith)
    longer (suc (suc zero)) above within begins = absurd (omega arith)
    longer (suc (suc (suc zero))) above within begins = absurd (omega arith)
    longer (suc (suc (suc (suc k)))) above within begins = un 4 (four_from a b d e (take k rest) begins)

-- the bytes end within a sequence
pub ends_after_one : (bs : List ℕ) → 1 ≤ length bs → length bs < 2 → IsUnconvertible bs → Leads (slice_index bs 0)
    → IsErrorLen bs None
ends_after_one [] some short un leads = absurd (omega arith)
ends_after_one (a ∷ []) some short un leads = open_end (a ∷ []) (omega arith) un (one_begins a leads)
ends_after_one (a ∷ b ∷ rest) some short un leads = absurd (omega arith)

pub ends_after_two : (bs : List ℕ) → 2 ≤ length bs → length bs < 3 → IsUnconvertible bs → Leads (slice_index bs 0)
    → follows (slice_index bs 0) (slice_index bs 1) ≡ true → IsErrorLen bs None
ends_after_two [] some short un leads second = absurd (omega arith)
ends_after_two (a ∷ []) some short un leads second = absurd (omega arith)
ends_after_two (a ∷ b ∷ []) some short un leads second = open_end (a ∷ b ∷ []) (omega arith) un
    (two_begin a b leads second)
ends_after_two (a ∷ b ∷ d ∷ rest) some short un leads second = absurd (omega arith)

pub ends_after_three : (bs : List ℕ) → 3 ≤ length bs → length bs < 4 → IsUnconvertible bs → Leads (slice_index bs 0)
    → follows (slice_index bs 0) (slice_index bs 1) ≡ true
    → IsInByteRange trailing_bytes (slice_index bs 2) → IsErrorLen bs None
ends_after_three [] some short un leads second third = absurd (omega arith)
ends_after_three (a ∷ []) some short un leads second third = absurd (omega arith)
ends_after_three (a ∷ b ∷ []) some short un leads second third = absurd (omega arith)
ends_after_three (a ∷ b ∷ d ∷ []) some short un leads second third =
    open_end (a ∷ b ∷ d ∷ []) (omega arith) un (three_begin a b d (wide a b (d ∷ []) un leads second) leads second
    third)
ends_after_three (a ∷ b ∷ d ∷ e ∷ rest) some short un leads second third = absurd (omega arith)

leads_from : (a : ℕ) → is_in_range 0xC2 0xF4 a ≡ true → Leads a
leads_from a h = grind (arith, nat_tests)

not_leads_from : (a : ℕ) → is_in_range 0xC2 0xF4 a ≡ false → ¬ (Leads a)
not_leads_from a h leads = grind (arith, nat_tests)

trailing_from : (a : ℕ) → is_in_range 0x80 0xBF a ≡ true → IsInByteRange trailing_bytes a
trailing_from a h = grind (arith, nat_tests)

not_trailing_from : (a : ℕ) → is_in_range 0x80 0xBF a ≡ false → ¬ (IsInByteRange trailing_bytes a)
not_trailing_from a h is = grind (arith, nat_tests)

-- std's length of the invalid sequence is that of the Standard's maximal subpart
pub utf8_error_len-IsErrorLen : (bs : List ℕ) → 1 ≤ length bs → IsUnconvertible bs → IsErrorLen bs (utf8_error_len bs)
unfolding utf8_error_len
utf8_error_len-IsErrorLen bs some un =
    let P : Option ℕ → Type 0 = λ o. IsErrorLen bs o in
    let a = slice_index bs 0 in
    let b = slice_index bs 1 in
    let d = slice_index bs 2 in
    let after_two : 2 ≤ length bs → Leads a → follows a b ≡ true → P (error_len_after_two bs) = λ long leads second.
    cond_both (nat_lt (length bs) 3) None (cond (is_in_range 0x80 0xBF d) (cond (nat_lt (length bs) 4) None (Some 3))
    (Some 2)) P
    (λ short. ends_after_two bs long (ltb-true _ _ short) un leads second)
    (λ longer. cond_both (is_in_range 0x80 0xBF d) (cond (nat_lt (length bs) 4) None (Some 3)) (Some 2) P
    (λ third. cond_both (nat_lt (length bs) 4) None (Some 3) P
    (λ short. ends_after_three bs (ltb-false _ _ longer) (ltb-true _ _ short) un leads second (trailing_from d third))
    (λ longest. three_bytes bs (ltb-false _ _ longest) un leads second (trailing_from d third)))
    (λ no_third. two_bytes bs (ltb-false _ _ longer) un leads second (not_trailing_from d no_third)))
    in
    let after_one : Leads a → P (error_len_after_one bs) = λ leads.
    cond_both (nat_lt (length bs) 2) None (cond (follows a b) (error_len_after_two bs) (Some 1)) P
    (λ short. ends_after_one bs some (ltb-true _ _ short) un leads)
    (λ longer. cond_both (follows a b) (error_len_after_two bs) (Some 1) P
    (λ second. after_two (ltb-false _ _ longer) leads second)
    (λ no_second. one_byte bs some un (inr (ltb-false _ _ longer, no_second))))
    in
    cond_both (length bs == 0) None (error_len_of_some bs) P
    (λ empty. let none = eqb-true _ _ empty in absurd (omega arith))
    (λ _. cond_both (is_in_range 0xC2 0xF4 a) (error_len_after_one bs) (Some 1) P
    (λ first. after_one (leads_from a first))
    (λ no_first. one_byte bs some un (inl (not_leads_from a no_first))))

-- the maximal subpart is unique, and so is the length of an invalid sequence
pub same_part : (bs : List ℕ) (n m : ℕ) → IsMaximalSubpart bs n → IsMaximalSubpart bs m → n ≡ m
same_part bs n m p q =
    let n_some = p.some in
    let m_some = q.some in
    let longer : (i j : ℕ) → IsMaximalSubpart bs i → IsMaximalSubpart bs j → i < j → ⊥ = λ i j is js less.
    let i_some = is.some in
    ⊎_elim (λ one. absurd (omega arith)) (λ begins. is.longest j less js.within begins) js.begins
    in
    ⊎_elim (λ less. absurd (longer n m p q less))
    (λ from. ⊎_elim (λ less. absurd (longer m n q p less)) (λ to. omega arith) (cases_lt m n))
    (cases_lt n m)

-- std's error of invalid bytes
pub error_by_std : (bs : List ℕ) → ¬ (IsUtf8 bs) → IsUtf8Error bs (utf8_valid_len bs)
    (utf8_error_len (drop (utf8_valid_len bs) bs))
error_by_std bs bad =
    let n = utf8_valid_len bs in
    let prefix = utf8_valid_len-IsLongestValidPrefix bs in
    let within = prefix.within in
    let un = unconvertible_after_prefix bs n prefix in
    let short : n < length bs = ⊎_elim (λ less. less)
    (λ (from : length bs ≤ n). absurd (bad (subst IsUtf8 (take_all n bs from) prefix.prefix)))
    (cases_lt n (length bs)) in
    (prefix, utf8_error_len-IsErrorLen (drop n bs) (omega (arith, length-drop n bs)) un)

pub error_is_no_text : (bs : List ℕ) (n : ℕ) (part : Option ℕ) → IsUtf8Error bs n part → ¬ (IsUtf8 bs)
error_is_no_text bs n part error whole =
    let some = error.1.0.some in
    let within = error.1.0.within in
    let left = length-drop n bs in
    error.0.longest (length bs) (omega arith) (omega arith) (subst IsUtf8
    (sym (take_all (length bs) bs (omega arith))) whole)

none_from : (o : Option ℕ) → IsNone o → o ≡ None
none_from None h = refl
none_from (Some n) h = absurd (true≢false h)

same_length : (bs : List ℕ) (p q : Option ℕ) → IsErrorLen bs p → IsErrorLen bs q → p ≡ q
same_length bs None q is_p is_q = sym (none_from q (is_q.1.1 (is_p.1.0 refl)))
same_length bs (Some n) None is_p is_q = absurd (true≢false (is_p.1.1 (is_q.1.0 refl)))
same_length bs (Some n) (Some m) is_p is_q = ap Some (same_part bs n m is_p.0 is_q.0)

pub error_is : Utf8ErrorIsUnique
error_is bs n part bad = (
  λ is.
      let std = error_by_std bs bad in
      let same : n ≡ utf8_valid_len bs = same_valid_prefix bs n (utf8_valid_len bs) is.0 std.0 in (
        same,
        same_length (drop n bs) part (utf8_error_len (drop n bs)) is.1
            (subst (λ k. IsErrorLen (drop k bs) (utf8_error_len (drop k bs))) (sym same) std.1),
      ),
  λ are.
      let std = error_by_std bs bad in
      let prefix : IsLongestValidPrefix bs n = subst (IsLongestValidPrefix bs) (sym are.0) std.0 in (
        prefix,
        subst (IsErrorLen (drop n bs)) (sym are.1) (subst
            (λ k. IsErrorLen (drop k bs) (utf8_error_len (drop k bs))) (sym are.0) std.1),
      ),
)

-- a byte that begins no character is an invalid sequence of its own

first_of_sequence : (l more bs : List ℕ) (b : ℕ) → IsWellFormedSequence l → l ++ more ≡ b ∷ bs → (b ≤ 0x7F) ⊎ Leads b
first_of_sequence [] more bs b well is = absurd (omega (arith, length-IsWellFormedSequence [] well))
first_of_sequence (a ∷ l) more bs b well is =
    one_from b (l, subst (λ x. IsWellFormedSequence (x ∷ l)) (ap (λ bytes. get_or bytes 0 0) is) well)

first_of_text : (b : ℕ) (bs : List ℕ) → IsUtf8 (b ∷ bs) → (b ≤ 0x7F) ⊎ Leads b
first_of_text b bs ([], x) = absurd (omega (arith, ap length x.1))
first_of_text b bs (c ∷ cs, x) =
    first_of_sequence (encode_utf8 c) (encode_utf8_all cs) bs b (IsWellFormedSequence-encode c (and_first _ _ x.0)) x.1
  where
    and_first : (p q : Bool) → (p && q) ≡ true → p ≡ true
    and_first true q both = refl
    and_first false q both = both

-- the first byte is one
pub first_is_refused : (bs : List ℕ) → 1 ≤ length bs
    → (128 ≤ slice_index bs 0) × (is_in_range 0xC2 0xF4 (slice_index bs 0) ≡ false)
    → IsUtf8Error bs 0 (Some 1)
first_is_refused [] some high = absurd (omega arith)
first_is_refused (b ∷ bs) some high =
    let alone = not_leads_from b high.1 in
    let prefix : IsLongestValidPrefix (b ∷ bs) 0 =
    record { within = omega arith; prefix = IsUtf8-nil; longest = longer alone } in
    (prefix, one_byte (b ∷ bs) some (unconvertible_after_prefix (b ∷ bs) 0 prefix) (inl alone))
  where
    longer : ¬ (Leads b) → (m : ℕ) → 0 < m → m ≤ length (b ∷ bs) → ¬ (IsUtf8 (take m (b ∷ bs)))
    longer alone zero above within text = absurd (omega arith)
    longer alone (suc m) above within text =
        ⊎_elim (λ ascii. absurd (omega (arith, high.0))) alone (first_of_text b (take m bs) text)

-- an error after a valid prefix

IsUtf8-drop_at : (bs : List ℕ) (at : ℕ) → IsUtf8 bs → at ≤ length bs → IsUtf8 (take at bs) → IsUtf8 (drop at bs)
IsUtf8-drop_at bs at whole within prefix = IsUtf8-drop bs at whole (IsCharBoundary-from_take bs at whole within prefix)

pub rest_at : (bs : List ℕ) (at : ℕ) → take (length bs - at) (drop at bs) ≡ drop at bs
rest_at bs at = take_all (length bs - at) (drop at bs) (omega (arith, length-drop at bs))

pub whole_from : (bs : List ℕ) (at : ℕ) → IsUtf8 (take at bs) → IsUtf8 (take (length bs - at) (drop at bs)) → IsUtf8 bs
whole_from bs at prefix rest =
    subst IsUtf8 (take-append-drop at bs) (IsUtf8-append (take at bs) (drop at bs) prefix
    (subst IsUtf8 (rest_at bs at) rest))

pub invalid_from : (bs : List ℕ) (at : ℕ) → at ≤ length bs → IsUtf8 (take at bs)
    → ¬ (IsUtf8 (take (length bs - at) (drop at bs))) → ¬ (IsUtf8 bs)
invalid_from bs at within prefix bad whole = bad (subst IsUtf8 (sym (rest_at bs at))
    (IsUtf8-drop_at bs at whole within prefix))

prefix_from : (bs : List ℕ) (at n : ℕ) → at ≤ length bs → IsUtf8 (take at bs) → IsLongestValidPrefix (drop at bs) n
    → IsLongestValidPrefix bs (at + n)
prefix_from bs at n within prefix f =
    let f_within = f.within in
    let left = length-drop at bs in
    record {
      within = omega arith;
      prefix = subst IsUtf8 (sym (take-add at n bs)) (IsUtf8-append (take at bs) (take n (drop at bs)) prefix f.prefix);
      longest = λ m above m_within text.
          let k = m - at in
          let m_is : m ≡ at + k = omega arith in
          let len : length (take m bs) ≡ m = length-take-le m bs m_within in
          let at_prefix : take at (take m bs) ≡ take at bs = ap (λ j. take at (take j bs)) m_is
          ∙ ap (take at) (take-add at k bs) ∙ take_at (take at bs) (take k (drop at bs)) at
          (length-take-le at bs within) in
          let rest : drop at (take m bs) ≡ take k (drop at bs) = ap (λ j. drop at (take j bs)) m_is
          ∙ drop-take at k bs in
          f.longest k (omega arith) (omega arith)
          (subst IsUtf8 rest (IsUtf8-drop_at (take m bs) at text (omega arith) (subst IsUtf8 (sym at_prefix) prefix)));
    }

pub error_from : (bs : List ℕ) (at n : ℕ) (part : Option ℕ) → at ≤ length bs → IsUtf8 (take at bs)
    → IsUtf8Error (take (length bs - at) (drop at bs)) n part → IsUtf8Error bs (at + n) part
error_from bs at n part within prefix error =
    let here = subst (λ l. IsUtf8Error l n part) (rest_at bs at) error in
    (prefix_from bs at n within prefix here.0, subst (λ l. IsErrorLen l part) (drop-drop n at bs) here.1)

-- one more valid window
pub longer_window : (bs : List ℕ) (at end : ℕ) → at ≤ end → IsUtf8 (take at bs)
    → IsUtf8 (take (end - at) (drop at bs)) → IsUtf8 (take end bs)
longer_window bs at end order prefix window =
    let end_is : at + (end - at) ≡ end = omega arith in
    subst (λ j. IsUtf8 (take j bs)) end_is (subst IsUtf8 (sym (take-add at (end - at) bs))
    (IsUtf8-append (take at bs) (take (end - at) (drop at bs)) prefix window))

-- one more ASCII block, which may overlap the ones before
pub longer_ascii : (bs : List ℕ) (at n : ℕ) → IsAscii (take at bs) → IsAscii (take n (drop at bs))
    → IsAscii (take (at + n) bs)
longer_ascii bs at n prefix block = subst IsAscii (sym (take-add at n bs))
    (IsAscii-append (take at bs) (take n (drop at bs)) prefix block)

pub ascii_prefix : (bs : List ℕ) (at last : ℕ) → last ≤ at → IsAscii (take at bs) → IsAscii (take last bs)
ascii_prefix bs at last order prefix = subst IsAscii (take-take last at bs order)
    (IsAscii-take (take at bs) last prefix)

-- the lanes of a vector before the first that is not below 128
pub front_is_ascii : (lanes : List ℕ) (n : ℕ) → n ≡ prefix_len (λ x. not (leb 128 x)) lanes → IsAscii (take n lanes)
front_is_ascii lanes n counted i = elim (cases_lt i n) [
  | inl below ↦ subst (λ (x : ℕ). x < 128) (sym (get_or-take n lanes i 0 below)) (leb-false 128 (get_or lanes i 0)
      (not-true _ (prefix_len_passes (λ x. not (leb 128 x)) lanes i 0 (omega (arith, counted)))))
  | inr past ↦ subst (λ (x : ℕ). x < 128)
      (sym (get_or_past (take n lanes) i 0 (omega (arith, length-take n lanes)))) (omega arith)
]

pub ascii_to_end : (bs : List ℕ) (at last n : ℕ) → last ≤ at → length bs ≤ last + n → IsAscii (take at bs)
    → IsAscii (take n (drop last bs)) → IsAscii (take (length bs) bs)
ascii_to_end bs at last n order reaches prefix block =
    subst IsAscii (take_all (last + n) bs reaches ∙ sym (take_all (length bs) bs (le_refl _)))
    (longer_ascii bs last n (ascii_prefix bs at last order prefix) block)

pub ascii_by_ends : (bs : List ℕ) (n : ℕ) → n ≤ length bs → length bs ≤ n + n → IsAscii (take n bs)
    → IsAscii (take (length bs - (length bs - n)) (drop (length bs - n) bs))
    → IsUtf8 bs
ascii_by_ends bs n fits short prefix back =
    let last = length bs - n in
    let whole = ascii_to_end bs n last (length bs - last) (omega arith) (omega arith) prefix back in
    IsUtf8-from_ascii bs (subst IsAscii (take_all (length bs) bs (le_refl _)) whole)
