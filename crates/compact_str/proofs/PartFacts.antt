-- For crates that call this one: five rulesets.
-- `part_facts`, beside `ForCallers::caller_facts`: the text on both sides of a character that was found, or of what
-- `trim` returns, and what a formatter wrote, in bytes.
-- `long_write_facts`, alone, for a `write!` of up to twelve values: with all of `caller_facts` a proof reaches its
-- limit of
-- instances. Past twelve pieces, values and literals together, `format_args!` nests, hence `append_assoc`.
-- `literal_facts`, without the two: the characters of a literal of any length, and `==` with one.
-- `split_facts` and `split_loop_facts`, without them: the parts that `split` gives for an ASCII character, and a loop
-- over them.
use Rattle.std.proofs.Common.{◌≡◌, ◌≢◌, ◌⊎◌, inl, inr, ℕ, List, Bool, true, false, ◌&&◌, [], ◌++◌, ◌∷◌, nat_eq, nat_lt}
use Rattle.std.proofs.Common.{Bor, Option, None, Some, cond, ◌+◌, ◌≤◌}
use Rattle.std.proofs.Common.{drop, take, length, map, refl, ap, sym, subst, ◌∙◌, ◌<◌, arith, append_assoc, append-nil}
use Rattle.std.proofs.lemmas.Bool.{false≢true, ltb-true, not-false}
use Rattle.std.proofs.lemmas.Bool.Decides.{nat_tests}
use Rattle.std.proofs.lemmas.Grind.{common_steps}
use Rattle.std.proofs.lemmas.List.Elements.{All-nil, All-cons}
use Rattle.std.proofs.lemmas.List.Folds.{fold-map}
use Rattle.std.proofs.lemmas.List.Splits.{slice_split_none, slice_split_at, length-slice_split}
use Rattle.std.proofs.lemmas.List.Sums.{sum_by_from, count_by-le-length}
use Rattle.std.proofs.lemmas.Str.{chars-append, chars-encodes, chars-nil, encodes-chars, chars_past_char}
use Rattle.std.proofs.lemmas.Str.{NoCharPasses-byte, encode_ascii, length-encode}
use Rattle.std.proofs.lemmas.Str.{IsCharBoundary-from_drop, IsUtf8-append, IsUtf8-drop, IsUtf8-encode, IsUtf8-take}
use Rattle.std.proofs.iter.runs.Made.{took}
use Rattle.std.proofs.lemmas.Iterator.{items_from_drains}
use Rattle.std.proofs.lemmas.Iterator.Splits.{YieldsList-from_str_split}
use Rattle.std.proofs.lemmas.List.{take-append-drop, length-map, map-append}
use Rattle.std.specs.Cmp.Lexicographic.{same_text, bytes_decides}
use Rattle.std.specs.Fmt.{WritesInCalls}
use Rattle.std.specs.Iterator.Runs.{Run}
use Rattle.std.specs.declared.str.Split.{Split}
use Rattle.std.specs.List.{All, AllPass, FoldsTo, concat, fold, sum_by, count_by, slice_split, onto_first}
use Rattle.std.specs.Option.{MatchOption}
use Rattle.std.specs.Char.{encode_utf8, is_whitespace, is_not_whitespace}
use Rattle.std.specs.Str.{IsUtf8, IsCharBoundary, IsTrim, NonePass, NoCharPasses}
use Rattle.std.specs.Str.Iter.{split_steps, split_text, split_has_more, split_started, split_pattern}
use Rattle.std.specs.Str.Pattern.{HasCharAt, FindsChar}
use lib.Pointwise.{pointwise}
use lib.Utf8.{scalar, scalars, low_scalar}
use Rattle.compact_repr.specs.Text.{text_of, utf8}
use Rattle.compact_repr.specs.Value.{PlacedText}
use Rattle.compact_repr.specs.Capacity.{Growth}
use Rattle.compact_str.specs.Output.{Writes}
use Rattle.compact_str.specs.Parts.{parts_to_come}
use Rattle.compact_str.specs.Ranges.{IsBetweenWhitespace}
use Rattle.compact_str.proofs.Literals.{written-text, text_of-one, text_of-two, text_of-three, text_of-four}
use Rattle.compact_str.proofs.Literals.{text_of-decimal, text_of-decimal_append}

-- the text before a character that was found, the character, and the text after it
pub cut-text : (t s : List ℕ) (c i j : ℕ) → HasCharAt c s i j → text_of s ≡ t → IsUtf8 s → IsCharBoundary s i
    → t ≡ text_of (take i s) ++ c ∷ text_of (drop j s)
cut-text t s c i j h e u b =
    let behind : IsUtf8 (drop i s) = IsUtf8-drop s i u b in
    sym e
    ∙ ap text_of (sym (take-append-drop i s))
    ∙ chars-append (take i s) (drop i s) (IsUtf8-take s i u b)
    ∙ ap (λ x. text_of (take i s) ++ x) (chars_past_char (drop i s) (drop j s) c behind h.split)

-- the same if the boundary before the character is computed, as after `split_once`
pub cut-at : (t s : List ℕ) (c i j : ℕ) → HasCharAt c s i j → text_of s ≡ t → IsUtf8 s → scalar c ≡ true
    → t ≡ text_of (take i s) ++ c ∷ text_of (drop j s)
cut-at t s c i j h e u is_scalar =
    let behind : IsUtf8 (drop j s) = IsUtf8-drop s j u (subst (λ (n : ℕ). IsCharBoundary s n) (sym h.ends) h.after) in
    let rest : IsUtf8 (drop i s) = subst IsUtf8 (sym h.split)
    (IsUtf8-append (encode_utf8 c) (drop j s) (IsUtf8-encode c is_scalar) behind) in
    cut-text t s c i j h e u (IsCharBoundary-from_drop s i (omega (arith, h.after.0)) rest)

-- what a formatter wrote, in bytes, in any number of parts
written-parts : (g : Growth) (v w : PlacedText) (parts : List (List ℕ)) → FoldsTo (Writes g) v parts w
    → utf8 w.text ≡ utf8 v.text ++ concat parts
written-parts g v w [] same = ap (λ (x : PlacedText). utf8 x.text) (sym same) ∙ sym (append-nil (utf8 v.text))
written-parts g v w (part ∷ parts) (x, first, rest) =
    written-parts g x w parts rest ∙ ap (λ bytes. bytes ++ concat parts) first.written
    ∙ append_assoc (utf8 v.text) part (concat parts)

pub written-bytes : (g : Growth) (v w : PlacedText) (bytes : List ℕ) → WritesInCalls (Writes g) v bytes w
    → utf8 w.text ≡ utf8 v.text ++ bytes
written-bytes g v w bytes writes = written-parts g v w writes.parts writes.calls
    ∙ ap (λ x. utf8 v.text ++ x) writes.whole

-- two texts have the same bytes just if they have the same characters
compared : (s literal : List ℕ) (same : Bool) → same ≡ pointwise nat_eq s literal → IsUtf8 s → IsUtf8 literal
    → ((pointwise nat_eq s literal ≡ true) × (text_of s ≡ text_of literal))
    ⊎ ((pointwise nat_eq s literal ≡ false) × (text_of s ≢ text_of literal))
compared s literal true test u v = inl (sym test, ap text_of (same_text s literal test))
compared s literal false test u v =
    inr (
      sym test,
      λ is. false≢true (test ∙ (bytes_decides s literal).1
          (sym (encodes-chars s u) ∙ ap utf8 is ∙ encodes-chars literal v)),
    )

pub word-compared : (s literal : List ℕ) → IsUtf8 s → IsUtf8 literal
    → ((pointwise nat_eq s literal ≡ true) × (text_of s ≡ text_of literal))
    ⊎ ((pointwise nat_eq s literal ≡ false) × (text_of s ≢ text_of literal))
word-compared s literal u v = compared s literal (pointwise nat_eq s literal) refl u v

-- an ASCII literal of any length is its own text; the test computes
abbrev pub is_plain : List ℕ → Bool
is_plain [] = true
is_plain (b ∷ bytes) = nat_lt b 128 && is_plain bytes

both : (x y : Bool) → (x && y) ≡ true → (x ≡ true) × (y ≡ true)
both true y e = (refl, e)
both false y e = absurd (false≢true e)

pub text_of-plain : (bytes : List ℕ) → is_plain bytes ≡ true → text_of bytes ≡ bytes
text_of-plain [] e = chars-nil
text_of-plain (b ∷ bytes) e =
    let parts = both (nat_lt b 128) (is_plain bytes) e in
    text_of-one b bytes (ltb-true b 128 parts.0) ∙ ap (λ t. b ∷ t) (text_of-plain bytes parts.1)

-- `trim` removes white space on both sides
white-below : (c : ℕ) → is_whitespace c ≡ true → c < 55296
white-below c white = grind (arith, nat_tests)

white-scalar : (c : ℕ) → is_whitespace c ≡ true → scalar c ≡ true
white-scalar c white = low_scalar c (white-below c white)

white-parts : (cs : List ℕ) → NonePass is_not_whitespace cs → (scalars cs ≡ true) × AllPass is_whitespace cs
white-parts [] none = (refl, All-nil (λ (d : ℕ). is_whitespace d ≡ true))
white-parts (c ∷ cs) (first, rest) =
    let others = white-parts cs rest in
    let white : is_whitespace c ≡ true = not-false (is_whitespace c) first in
    (rw (white-scalar c white) others.0, All-cons (λ (d : ℕ). is_whitespace d ≡ true) c cs white others.1)

white-text : (bytes : List ℕ) → NoCharPasses is_not_whitespace bytes
    → IsUtf8 bytes × AllPass is_whitespace (text_of bytes)
white-text bytes (cs, spelled, none) =
    let parts = white-parts cs none in (
      (cs, (parts.0, spelled)),
      subst (λ (t : List ℕ). AllPass is_whitespace t)
          (sym (chars-encodes cs parts.0) ∙ ap text_of spelled) parts.1,
    )

pub trimmed-text : (t s r : List ℕ) → IsTrim s r → text_of s ≡ t → IsUtf8 r → IsBetweenWhitespace t (text_of r)
trimmed-text t s r (m, n, cut, before, behind, starts, ends) e u =
    let head = white-text (take m s) before in
    let tail = white-text (drop n (drop m s)) behind in
    let rest : drop m s ≡ r ++ drop n (drop m s) = sym (take-append-drop n (drop m s))
    ∙ ap (λ x. x ++ drop n (drop m s)) (sym cut) in
    let whole : s ≡ take m s ++ (r ++ drop n (drop m s)) = sym (take-append-drop m s) ∙ ap (λ x. take m s ++ x) rest in
    record {
      head = text_of (take m s);
      tail = text_of (drop n (drop m s));
      whole =
          sym e
          ∙ ap text_of whole
          ∙ chars-append (take m s) (r ++ drop n (drop m s)) head.0
          ∙ ap (λ x. text_of (take m s) ++ x) (chars-append r (drop n (drop m s)) u)
          ∙ sym (append_assoc (text_of (take m s)) (text_of r) (text_of (drop n (drop m s))));
      white_head = head.1;
      white_tail = tail.1;
    }

pub ruleset part_facts = (cut-text, cut-at, trimmed-text, written-bytes, append-nil)

pub ruleset long_write_facts = (
  written-text,
  written-bytes,
  chars-append,
  append_assoc,
  text_of-one,
  text_of-two,
  text_of-three,
  text_of-four,
  text_of-decimal,
  text_of-decimal_append,
)

pub ruleset literal_facts = (
  word-compared,
  text_of-plain,
  chars-nil,
  text_of-one,
  text_of-two,
  text_of-three,
  text_of-four,
)

-- the parts that a whole run of `split` gives, and how many they are; the first equation shows `grind` the call to match
module _ (run : Run (split_steps FindsChar (λ a b. b ≡ a))) where
  abbrev split_at : List (List ℕ)
  split_at = slice_split (λ byte. nat_eq byte (split_pattern run.from)) (split_text run.from)

  pub split-parts : run.whole ≡ true → split_pattern run.from < 128 → split_has_more run.from ≡ true
      → (run.items ≡ run.items) × (map (λ part. part.now) run.items ≡ split_at) × (run.len ≡ length split_at)
      × ((f : ℕ → List ℕ → ℕ) (n : ℕ) → fold f n split_at ≡ fold (λ k part. f k part.now) n run.items)
  split-parts whole ascii more =
      let all = took run in
      let same = items_from_drains run.items (all.0, all.1, λ _. all.2 whole)
      (YieldsList-from_str_split {s = run.from} _ _ ascii refl more refl) in (
        refl,
        same,
        run.long ∙ sym (length-map run.items (λ part. part.now)) ∙ ap length same,
        λ f n. ap (fold f n) (sym same) ∙ fold-map f (λ part. part.now) n run.items,
      )

pub ruleset split_facts = (split-parts)

-- where a part ends: at the first byte that is the character, or where the text does
lacks_byte : (c : ℕ) (bs : List ℕ) → NoCharPasses (λ d. nat_eq d c) bs → c < 128 → All (λ b. nat_eq b c ≡ false) bs
lacks_byte c bs none ascii k d within =
    let fails = NoCharPasses-byte (λ b. nat_eq b c) bs k none within in
    grind (arith, nat_tests, common_steps, fails)

module _ (c : ℕ) (ascii : c < 128) (bs part rest : List ℕ) (more : Bool) where
  abbrev parts : List ℕ → List (List ℕ)
  parts = slice_split (λ byte. nat_eq byte c)

  first_part : (o : Option (ℕ × ℕ)) → FindsChar c bs o
      → MatchOption o ((part ≡ bs) × (more ≡ false))
      (λ q. 0 < q.1 → (part ≡ take q.0 bs) × (more ≡ true) × (rest ≡ drop q.1 bs))
      → parts bs ≡ part ∷ cond more (parts rest) []
  first_part None none is = slice_split_none _ bs (lacks_byte c bs none ascii)
      ∙ (λ i. sym is.0 i ∷ cond (sym is.1 i) (parts rest) [])
  first_part (Some q) (none, at) is =
      let one = encode_ascii c ascii in
      let e = is (omega (arith, at.ends, length-encode c, ap length one)) in
      ap parts (sym (take-append-drop q.0 bs) ∙ ap (λ x. take q.0 bs ++ x) (at.split ∙ ap (λ x. x ++ drop q.1 bs) one))
      ∙ slice_split_at _ (take q.0 bs) c (drop q.1 bs) (lacks_byte c (take q.0 bs) none ascii)
      (grind (arith, nat_tests))
      ∙ (λ i. sym e.0 i ∷ cond (sym e.1 i) (parts (sym e.2 i)) [])

-- a loop over `split`: the first part shows `grind` the call of `next` to match
pub split-step : (s t : Split ℕ) (part : Bor (List ℕ)) → split_steps FindsChar (λ a b. b ≡ a) s (Some part) t
    → split_pattern s < 128
    → split_steps FindsChar (λ a b. b ≡ a) s (Some part) t × (parts_to_come s ≡ part.now ∷ parts_to_come t)
unfolding parts_to_come
split-step s t part step ascii =
    let found = step.1.1.1 in (
      step,
      ap (λ b. cond b (slice_split (λ byte. nat_eq byte (split_pattern s)) (split_text s)) []) (sym step.0)
          ∙ first_part (split_pattern s) ascii (split_text s) part.now (split_text t) (split_has_more t) found.0 found.1
          found.2
          ∙ ap (λ c. part.now ∷ cond (split_has_more t) (slice_split (λ byte. nat_eq byte c) (split_text t)) [])
          (sym step.1.0),
    )

pub split-start : (s : Split ℕ) → split_has_more s ≡ true → split_started s ≡ false
    → parts_to_come s ≡ slice_split (λ byte. nat_eq byte (split_pattern s)) (split_text s)
unfolding parts_to_come
split-start s more started =
    ap (λ b. cond b (slice_split (λ byte. nat_eq byte (split_pattern s)) (split_text s)) []) more

pub split-end : (s : Split ℕ) → split_has_more s ≡ false → parts_to_come s ≡ []
unfolding parts_to_come
split-end s none = ap (λ b. cond b (slice_split (λ byte. nat_eq byte (split_pattern s)) (split_text s)) []) none

-- the parts have no more bytes than the text, and are at most one more than its bytes
more_bytes : (b : Bool) (c : ℕ) (parts : List (List ℕ))
    → sum_by length (cond b ([] ∷ parts) (onto_first c parts)) ≤ sum_by length parts + 1
more_bytes true c parts = omega arith
more_bytes false c [] = omega arith
more_bytes false c (part ∷ parts) =
    let after = sum_by_from length (length (c ∷ part)) parts in
    let before = sum_by_from length (length part) parts in
    grind (arith, after, before)

pub split-bytes : (p : ℕ → Bool) (bs : List ℕ) → sum_by length (slice_split p bs) ≤ length bs
split-bytes p [] = omega arith
split-bytes p (b ∷ bs) = omega (arith, more_bytes (p b) b (slice_split p bs), split-bytes p bs)

pub split-count : (t : List ℕ → Bool) (p : ℕ → Bool) (bs : List ℕ) → count_by t (slice_split p bs) ≤ length bs + 1
split-count t p bs =
    omega (
      arith,
      count_by-le-length t (slice_split p bs),
      length-slice_split p bs,
      count_by-le-length p bs,
    )

pub ruleset split_loop_facts = (
  split-step,
  split-start,
  split-end,
  split-bytes,
  split-count,
  sum_by_from,
  map-append,
  append_assoc,
  append-nil,
)
