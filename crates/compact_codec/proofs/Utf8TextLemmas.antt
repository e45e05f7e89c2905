-- The lossy text of bytes.
use Rattle.std.proofs.Common.{◌≡◌, ℕ, zero, suc, ◌+◌, ◌<◌, ◌≤◌, ◌⊎◌, true, List, [], ◌∷◌, ◌++◌, length, take, drop}
use Rattle.std.proofs.Common.{Option, IsUtf8, encode_utf8_all, refl, sym, ap, subst, ◌∙◌, arith, inl, inr, ⊎_elim}
use Rattle.std.proofs.Common.{append_assoc, append-nil, length-append, length-drop, take_all, take-append-drop}
use Rattle.std.proofs.Common.{drop-drop, take_at}
use Rattle.std.specs.Prelude.{unwrap_or}
use Rattle.std.specs.Char.{IsScalar, encode_utf8}
use Rattle.std.specs.Str.{chars, all_scalars}
use Rattle.std.specs.Str.Lossy.{utf8_valid_len, utf8_invalid_len, utf8_lossy, after_first_chunk, replacement_bytes}
use Rattle.std.proofs.lemmas.Bool.{cases_Bool, and_parts, false≢true}
use Rattle.std.specs.Str.{is_utf8}
use Rattle.std.proofs.lemmas.Str.{IsUtf8-from_is_utf8, is_utf8-from_IsUtf8, chars-encodes, chars-append, encodes_same}
use Rattle.std.proofs.lemmas.Str.{encode_same, length-encode, len_utf8_bounds, utf8_lossy-IsUtf8, utf8_lossy_step}
use Rattle.std.proofs.lemmas.List.{length-take-le}
use Rattle.compact_codec.specs.Utf8Table.{IsWellFormedSequence}
use Rattle.compact_codec.specs.InvalidSequence.{IsLongestValidPrefix, IsUnconvertible, IsMaximalSubpart, IsUtf8Error}
use Rattle.compact_text.specs.Text.{replacement_character}
use Rattle.compact_codec.specs.Utf8Text.{IsUtf8LossyText, utf8_lossy_text, BytesEncodeOneText, Utf8LossyTextIsUnique}
use Rattle.compact_codec.specs.Utf8Text.{Utf8LossyTextOfText, replacement_text, BeginsWithChunk}
use Rattle.compact_codec.proofs.Rows.{IsWellFormedSequence-encode}
use Rattle.compact_codec.proofs.InvalidSequenceLemmas.{error_by_std, same_part, error_is, error_is_no_text}

pub encodes_one_text : BytesEncodeOneText
encodes_one_text bytes text other is is_too = encodes_same text other (is.1 ∙ sym is_too.1)

pub text_or_not : (bs : List ℕ) → IsUtf8 bs ⊎ (¬ (IsUtf8 bs))
text_or_not bs = ⊎_elim
    (λ yes. inl (IsUtf8-from_is_utf8 bs yes))
    (λ no. inr (λ u. false≢true (sym no ∙ is_utf8-from_IsUtf8 bs u)))
    (cases_Bool (is_utf8 bs))

-- std's lossy text, a valid prefix and a U+FFFD at a time

pub utf8_lossy_text-IsUtf8 : (bs : List ℕ) → IsUtf8 bs → utf8_lossy_text bs ≡ chars bs
unfolding utf8_lossy_text
utf8_lossy_text-IsUtf8 bs u = ap chars (utf8_lossy-IsUtf8 bs u)

replacement_is_utf8 : IsUtf8 replacement_bytes
unfolding encode_utf8
replacement_is_utf8 = (replacement_character ∷ [], (refl, refl))

chars-replacement_character : chars replacement_bytes ≡ replacement_character ∷ []
unfolding chars
chars-replacement_character = refl

pub utf8_lossy_text-step : (bs : List ℕ) → ¬ (IsUtf8 bs)
    → utf8_lossy_text bs ≡ chars (take (utf8_valid_len bs) bs)
    ++ replacement_character ∷ utf8_lossy_text (after_first_chunk bs)
unfolding utf8_lossy_text
utf8_lossy_text-step bs bad =
    let n = utf8_valid_len bs in
    let prefix = (error_by_std bs bad).0 in
    let short : ¬ (n ≡ length bs) = λ e. bad (subst IsUtf8 (take_all n bs (omega arith)) prefix.prefix) in
    let later = utf8_lossy (after_first_chunk bs) in
    ap chars (utf8_lossy_step bs short)
    ∙ chars-append (take n bs) (replacement_bytes ++ later) prefix.prefix
    ∙ ap (λ t. chars (take n bs) ++ t) (chars-append replacement_bytes later replacement_is_utf8
    ∙ ap (λ t. t ++ chars later) chars-replacement_character)

-- the relation has that text

IsUtf8LossyText-prefix : (cs rest text : List ℕ) → all_scalars cs ≡ true → IsUtf8LossyText rest text
    → IsUtf8LossyText (encode_utf8_all cs ++ rest) (cs ++ text)
IsUtf8LossyText-prefix [] rest text all is = is
IsUtf8LossyText-prefix (c ∷ cs) rest text all is =
    let both = and_parts _ _ all in
    inl (encode_utf8_all cs ++ rest, both.0, append_assoc (encode_utf8 c) (encode_utf8_all cs) rest, IsUtf8LossyText-prefix cs rest text both.1 is)

lossy_of_text : (bs : List ℕ) → IsUtf8 bs → IsUtf8LossyText bs (utf8_lossy_text bs)
lossy_of_text bs u =
    let whole = IsUtf8LossyText-prefix u.0 [] [] u.1.0 refl in
    let bytes_are : encode_utf8_all u.0 ++ [] ≡ bs = append-nil (encode_utf8_all u.0) ∙ u.1.1 in
    let text_is : u.0 ++ [] ≡ utf8_lossy_text bs = append-nil u.0 ∙ sym (chars-encodes u.0 u.1.0) ∙ ap chars u.1.1
    ∙ sym (utf8_lossy_text-IsUtf8 bs u) in
    subst (λ t. IsUtf8LossyText bs t) text_is (subst (λ b. IsUtf8LossyText b (u.0 ++ [])) bytes_are whole)

lossy_within : (fuel : ℕ) (bs : List ℕ) → length bs ≤ fuel → IsUtf8LossyText bs (utf8_lossy_text bs)
lossy_within fuel [] le = lossy_of_text [] ([], (refl, refl))
lossy_within zero (b ∷ more) le = absurd (omega arith)
lossy_within (suc fuel) (b ∷ more) le = let bs = b ∷ more in ⊎_elim
    (λ (u : IsUtf8 bs). lossy_of_text bs u)
    (λ (bad : ¬ (IsUtf8 bs)).
    let n = utf8_valid_len bs in
    let rest = drop n bs in
    let error = error_by_std bs bad in
    let text = error.0.prefix in
    let part = error.1.0 in
    let k = utf8_invalid_len rest in
    let after = after_first_chunk bs in
    let after_is : drop k rest ≡ after = drop-drop k n bs in
    let some = part.some in
    let within = part.within in
    let shorter : length after ≤ fuel = omega (arith, ap length after_is, length-drop k rest, length-drop n bs) in
    let later : IsUtf8LossyText (drop k rest) (utf8_lossy_text after) =
    subst (λ b. IsUtf8LossyText b (utf8_lossy_text after)) (sym after_is) (lossy_within fuel after shorter) in
    let invalid : IsUtf8LossyText rest (replacement_character ∷ utf8_lossy_text after) = inr (k, refl, part, later) in
    let whole = IsUtf8LossyText-prefix text.0 rest _ text.1.0 invalid in
    let bytes_are : encode_utf8_all text.0 ++ rest ≡ bs = ap (λ t. t ++ rest) text.1.1 ∙ take-append-drop n bs in
    let text_is : text.0 ++ replacement_character ∷ utf8_lossy_text after ≡ utf8_lossy_text bs =
    ap (λ t. t ++ replacement_character ∷ utf8_lossy_text after)
    (sym (chars-encodes text.0 text.1.0) ∙ ap chars text.1.1) ∙ sym (utf8_lossy_text-step bs bad) in
    subst (λ t. IsUtf8LossyText bs t) text_is (subst (λ b. IsUtf8LossyText b
    (text.0 ++ replacement_character ∷ utf8_lossy_text after)) bytes_are whole))
    (text_or_not bs)

-- and no other

no_character : (c : ℕ) (bytes rest : List ℕ) → IsScalar c → bytes ≡ encode_utf8 c ++ rest → IsUnconvertible bytes → ⊥
no_character c bytes rest is parts un =
    let prefix : take (length (encode_utf8 c)) bytes ≡ encode_utf8 c = ap (take (length (encode_utf8 c))) parts
    ∙ take_at (encode_utf8 c) rest _ refl in
    un (length (encode_utf8 c)) (subst IsWellFormedSequence (sym prefix) (IsWellFormedSequence-encode c is))

some_left : (bytes : List ℕ) (c : ℕ) (text : List ℕ) → IsUtf8LossyText bytes (c ∷ text) → bytes ≡ [] → ⊥
some_left bytes c text is none = ⊎_elim
    (λ p. let rest = p.0 in omega (arith, ap length (sym p.2 ∙ none), length-append (encode_utf8 c) rest, length-encode c, (len_utf8_bounds c).0))
    (λ p. let some = p.2.some in let within = p.2.within in omega (arith, ap length none))
    is

one_lossy_text : (bytes other : List ℕ) (text more : List ℕ) → bytes ≡ other → IsUtf8LossyText bytes text
    → IsUtf8LossyText other more → text ≡ more
one_lossy_text bytes other [] [] same is is_too = refl
one_lossy_text bytes other [] (d ∷ more) same is is_too = absurd (some_left other d more is_too (sym same ∙ is))
one_lossy_text bytes other (c ∷ text) [] same is is_too = absurd (some_left bytes c text is (same ∙ is_too))
one_lossy_text bytes other (c ∷ text) (d ∷ more) same is is_too = ⊎_elim
    (λ p. ⊎_elim
    (λ q.
    let both = encode_same c d p.0 q.0 (sym p.2 ∙ same ∙ q.2) in
    λ i. both.0 i ∷ one_lossy_text p.0 q.0 text more both.1 p.3 q.3 i)
    (λ q. absurd (no_character c other p.0 p.1 (sym same ∙ p.2) q.2.unconvertible))
    is_too)
    (λ p. ⊎_elim
    (λ q. absurd (no_character d bytes q.0 q.1 (same ∙ q.2) p.2.unconvertible))
    (λ q.
    let length_is : p.0 ≡ q.0 = same_part other p.0 q.0 (subst (λ b. IsMaximalSubpart b p.0) same p.2) q.2 in
    let rest_is : drop p.0 bytes ≡ drop q.0 other = λ i. drop (length_is i) (same i) in
    let first : c ≡ d = p.1 ∙ sym q.1 in
    λ i. first i ∷ one_lossy_text (drop p.0 bytes) (drop q.0 other) text more rest_is p.3 q.3 i)
    is_too)
    is

pub utf8_lossy_text_is : Utf8LossyTextIsUnique
utf8_lossy_text_is bytes text =
    let std = lossy_within (length bytes) bytes (omega arith) in (
      λ is. one_lossy_text bytes bytes text (utf8_lossy_text bytes) refl is std,
      λ same. subst (IsUtf8LossyText bytes) (sym same) std,
    )

-- its part for one chunk

pub replacement_text-some : (bs : List ℕ) → 0 < length bs → replacement_text bs ≡ replacement_character ∷ []
replacement_text-some [] some = absurd (omega arith)
replacement_text-some (b ∷ bs) some = refl

-- valid bytes are one chunk
pub whole_chunk : (bytes : List ℕ) → IsUtf8 bytes
    → BeginsWithChunk bytes bytes [] [] × (utf8_lossy_text bytes ≡ chars bytes
    ++ (replacement_text [] ++ utf8_lossy_text []))
whole_chunk bytes u = (
  record {
    parts = sym (append-nil bytes);
    prefix = record {
      within = omega arith;
      prefix = subst IsUtf8 (sym (take_all (length bytes) bytes (omega arith))) u;
      longest = λ m above within. absurd (omega arith);
    };
    whole = λ _. refl;
    subpart = λ some. absurd (some refl);
  },
  utf8_lossy_text-IsUtf8 bytes u ∙ sym (append-nil (chars bytes))
      ∙ ap (λ t. chars bytes ++ t) (sym (utf8_lossy_text-IsUtf8 [] ([], (refl, refl)) ∙ chars-encodes [] refl)),
)

-- otherwise the first chunk is cut at the error
pub invalid_chunk : (bytes : List ℕ) (n : ℕ) (part : Option ℕ) → IsUtf8Error bytes n part
    → let k = unwrap_or part (length (drop n bytes)) in
    BeginsWithChunk bytes (take n bytes) (take k (drop n bytes)) (drop k (drop n bytes))
    × (utf8_lossy_text bytes ≡ chars (take n bytes) ++ (replacement_text (take k (drop n bytes))
    ++ utf8_lossy_text (drop k (drop n bytes))))
    × (0 < length (take k (drop n bytes)))
invalid_chunk bytes n part error =
    let bad = error_is_no_text bytes n part error in
    let rest = drop n bytes in
    let k = unwrap_or part (length rest) in
    let subpart = error.1.0 in
    let some = subpart.some in
    let within = subpart.within in
    let prefix_within = error.0.within in
    let text_len : length (take n bytes) ≡ n = length-take-le n bytes prefix_within in
    let invalid_len : length (take k rest) ≡ k = length-take-le k rest within in
    let cut : take k rest ++ drop k rest ≡ rest = take-append-drop k rest in
    let after = drop k rest in
    let same = (error_is bytes n part bad).0 error in
    let k_is : k ≡ utf8_invalid_len rest = ap (λ o. unwrap_or o (length rest)) same.1 in
    let end_is : n + k ≡ utf8_valid_len bytes + utf8_invalid_len (drop (utf8_valid_len bytes) bytes) =
    ap (λ j. n + j) k_is ∙ ap (λ j. j + utf8_invalid_len (drop j bytes)) same.0 in
    let after_is : after_first_chunk bytes ≡ after = sym (drop-drop k n bytes ∙ ap (λ j. drop j bytes) end_is) in
    let marked : replacement_text (take k rest) ≡ replacement_character ∷ [] =
    replacement_text-some (take k rest) (omega arith) in
    let text_is : utf8_lossy_text bytes ≡ chars (take n bytes)
    ++ (replacement_text (take k rest) ++ utf8_lossy_text after) =
    utf8_lossy_text-step bytes bad ∙ (λ i. chars (take (sym same.0 i) bytes)
    ++ replacement_character ∷ utf8_lossy_text (after_is i))
    ∙ ap (λ m. chars (take n bytes) ++ (m ++ utf8_lossy_text after)) (sym marked) in (
      record {
        parts = sym (ap (λ t. take n bytes ++ t) cut ∙ take-append-drop n bytes);
        prefix = subst (IsLongestValidPrefix bytes) (sym text_len) error.0;
        whole = λ none. absurd (omega (arith, ap length none));
        subpart = λ _. subst (λ j. IsMaximalSubpart (take k rest ++ after) j) (sym invalid_len)
            (subst (λ b. IsMaximalSubpart b k) (sym cut) subpart);
      },
      text_is,
      omega arith,
    )

pub utf8_lossy_text_of_text : Utf8LossyTextOfText
utf8_lossy_text_of_text bytes text is = utf8_lossy_text-IsUtf8 bytes (text, is) ∙ ap chars (sym is.1)
    ∙ chars-encodes text is.0

-- the end of a lossy decoder
pub utf8_lossy_text-empty : (bytes : List ℕ) → length bytes ≡ 0 → utf8_lossy_text bytes ≡ []
utf8_lossy_text-empty [] none = utf8_lossy_text_of_text [] [] (refl, refl)
utf8_lossy_text-empty (b ∷ bytes) none = absurd (omega arith)

pub replacement_text-none : (bs : List ℕ) → length bs ≡ 0 → replacement_text bs ≡ []
replacement_text-none [] none = refl
replacement_text-none (b ∷ bs) none = absurd (omega arith)
