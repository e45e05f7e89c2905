-- The last character of a text, from its last bytes.
use Rattle.std.proofs.Common.{◌≡◌, ℕ, ◌+◌, ◌-◌, ◌*◌, ◌%◌, ◌<◌, ◌≤◌, List, [], ◌∷◌, ◌++◌, refl, ap, sym, ◌∙◌}
use Rattle.std.proofs.Common.{arith, inl, inr, append_assoc, append-nil, slice_index_or, length, length-append, true, subst}
use Rattle.std.proofs.lemmas.Bool.{and_parts}
use Rattle.std.proofs.lemmas.List.{get_or-append_right}
use Rattle.std.proofs.lemmas.Str.{IsUtf8-append, IsUtf8-encode, IsUtf8-nil, length-encode, len_utf8_bounds}
use Rattle.std.specs.Char.{IsScalar}
use Rattle.std.specs.Str.{IsUtf8}
use lib.Utf8.{encode, encodes, scalar, scalars, scalar_cases}
use Rattle.compact_text.specs.Text.{text_of}
use Rattle.compact_text.specs.Cut.{IsBoundary, text_before}
use Rattle.compact_text.proofs.CutLemmas.{text_of-last, text_before-append}
use Rattle.compact_text.proofs.Encodings.{one, two, three, four, width, encode_one, encode_two, encode_three, encode_four}
use Rattle.compact_text.proofs.Texts.{size-text_of}

-- the last k bytes encode c
pub record IsLast (bytes : List ℕ) (k c : ℕ) : Type 0 where
  pub scalar : IsScalar c
  pub text : text_of bytes ≡ text_before (text_of bytes) (length bytes - k) ++ c ∷ []
  pub boundary : IsBoundary (text_of bytes) (length bytes - k)

-- what the last byte, the one before it, and so on, say of the last character
abbrev pub Decoded : (bytes : List ℕ) (a b d e : ℕ) → Type 0
Decoded bytes a b d e = (a < 128 → IsLast bytes 1 a)
    × (128 ≤ a → (2 ≤ length bytes) × (192 ≤ b → IsLast bytes 2 (b % 32 * 64 + a % 64))
    × (b < 192 → (3 ≤ length bytes) × (192 ≤ d → IsLast bytes 3 (d % 16 * 4096 + (b % 64 * 64 + a % 64)))
    × (d < 192 → (4 ≤ length bytes)
    × IsLast bytes 4 (e % 8 * 262144 + (d % 64 * 4096 + (b % 64 * 64 + a % 64))))))

-- the bytes are a front and those of c
record Ends (bytes front : List ℕ) (c : ℕ) : Type 0 where
  valid : IsUtf8 front
  scalar : IsScalar c
  parts : bytes ≡ front ++ encode c

-- a text that is not empty ends with a character
ended : (cs : List ℕ) → scalars cs ≡ true → 0 < length (encodes cs) → (front : List ℕ) × (c : ℕ)
    × Ends (encodes cs) front c
ended [] valid some = absurd (omega (arith, some))
ended (c ∷ []) valid some = (
  [],
  c,
  record { valid = IsUtf8-nil; scalar = (and_parts (scalar c) true valid).0; parts = append-nil (encode c) },
)
ended (c ∷ d ∷ ds) valid some =
    let both = and_parts (scalar c) (scalars (d ∷ ds)) valid in
    let w = len_utf8_bounds d in
    let rest = ended (d ∷ ds) both.1
    (omega (arith, w.0, length-encode d, length-append (encode d) (encodes ds))) in (
      encode c ++ rest.0,
      rest.1,
      record {
        valid = IsUtf8-append (encode c) rest.0 (IsUtf8-encode c both.0) rest.2.valid;
        scalar = rest.2.scalar;
        parts = ap (λ x. encode c ++ x) rest.2.parts ∙ sym (append_assoc (encode c) rest.0 (encode rest.1));
      },
    )

-- the byte that stands k from the end
from_end : (bytes front ws : List ℕ) (k : ℕ) → bytes ≡ front ++ ws → k ≤ length ws
    → slice_index_or bytes (length bytes - k) 0 ≡ slice_index_or ws (length ws - k) 0
from_end bytes front ws k e h =
    ap (λ xs. slice_index_or xs (length xs - k) 0) e
    ∙ get_or-append_right front ws (length front) (length (front ++ ws) - k) 0 refl
    (omega (arith, length-append front ws, h))
    ∙ ap (λ i. slice_index_or ws i 0) (omega (arith, length-append front ws, h))

-- so its last k bytes are those of the character that it ends with
is_last : (bytes front : List ℕ) (k c code : ℕ) → IsUtf8 bytes → Ends bytes front c → length (encode c) ≡ k
    → code ≡ c → IsLast bytes k code
is_last bytes front k c code u h e value =
    let whole = text_of-last bytes front c u h.valid h.parts in
    let at : length front ≡ length bytes - k = omega (arith, ap length h.parts, length-append front (encode c), e) in
    let position = size-text_of front h.valid ∙ at in
    let before = ap (λ t. text_before t (length bytes - k)) whole
    ∙ text_before-append (text_of front) (c ∷ []) _ position in
    rw value record {
      scalar = h.scalar;
      text = whole ∙ ap (λ t. t ++ c ∷ []) (sym before);
      boundary = (text_of front, c ∷ [], record { parts = whole; position = position });
    }

-- by how many bytes the character takes: each byte of its encoding is known then
by_width : (bytes front : List ℕ) (c : ℕ) → IsUtf8 bytes → Ends bytes front c → Decoded bytes
    (slice_index_or bytes (length bytes - 1) 0) (slice_index_or bytes (length bytes - 2) 0)
    (slice_index_or bytes (length bytes - 3) 0) (slice_index_or bytes (length bytes - 4) 0)
by_width bytes front c u h =
    let at : (ws : List ℕ) (k : ℕ) → encode c ≡ ws → k ≤ length ws
    → slice_index_or bytes (length bytes - k) 0 ≡ slice_index_or ws (length ws - k) 0 =
    λ ws k w few. from_end bytes front ws k (h.parts ∙ ap (λ x. front ++ x) w) few in
    let long : length front + length (encode c) ≡ length bytes =
    omega (arith, ap length h.parts, length-append front (encode c)) in
    elim (width c) [
      | one s ↦
          let w = encode_one c s in
          let a = at _ 1 w (omega arith) in
          ((λ _. is_last bytes front 1 c _ u h (ap length w) a), (λ k. absurd (omega (arith, k, a, s))))
      | two l s ↦
          let w = encode_two c l s in
          let a = at _ 1 w (omega arith) in
          let b = at _ 2 w (omega arith) in (
            (λ k. absurd (omega (arith, k, a))),
            (λ _. (
              omega (arith, long, ap length w),
              (λ _. is_last bytes front 2 c _ u h (ap length w) (omega (arith, a, b, s))),
              (λ k. absurd (omega (arith, k, b))),
            )),
          )
      | three l s ↦
          let w = encode_three c l s in
          let a = at _ 1 w (omega arith) in
          let b = at _ 2 w (omega arith) in
          let d = at _ 3 w (omega arith) in (
            (λ k. absurd (omega (arith, k, a))),
            (λ _. (
              omega (arith, long, ap length w),
              (λ k. absurd (omega (arith, k, b))),
              (λ _. (
                omega (arith, long, ap length w),
                (λ _. is_last bytes front 3 c _ u h (ap length w) (omega (arith, a, b, d, s))),
                (λ k. absurd (omega (arith, k, d))),
              )),
            )),
          )
      | four l ↦
          let w = encode_four c l in
          let a = at _ 1 w (omega arith) in
          let b = at _ 2 w (omega arith) in
          let d = at _ 3 w (omega arith) in
          let e = at _ 4 w (omega arith) in
          let most : c < 1114112 = elim (scalar_cases c h.scalar) [ inl s ↦ omega (arith, s) | inr s ↦ s.1 ] in (
            (λ k. absurd (omega (arith, k, a))),
            (λ _. (
              omega (arith, long, ap length w),
              (λ k. absurd (omega (arith, k, b))),
              (λ _. (
                omega (arith, long, ap length w),
                (λ k. absurd (omega (arith, k, d))),
                (λ _. (
                  omega (arith, long, ap length w),
                  is_last bytes front 4 c _ u h (ap length w) (omega (arith, a, b, d, e, most)),
                )),
              )),
            )),
          )
    ]

-- the fact by which `split_last` is proved
pub decoded : (bytes : List ℕ) → IsUtf8 bytes → 0 < length bytes → Decoded bytes
    (slice_index_or bytes (length bytes - 1) 0) (slice_index_or bytes (length bytes - 2) 0)
    (slice_index_or bytes (length bytes - 3) 0) (slice_index_or bytes (length bytes - 4) 0)
decoded bytes u some =
    let found = ended u.0 u.1.0 (omega (arith, some, ap length u.1.1)) in
    by_width bytes found.0 found.1 u (subst (λ xs. Ends xs found.0 found.1) u.1.1 found.2)
