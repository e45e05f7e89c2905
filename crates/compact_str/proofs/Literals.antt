-- The characters of what a formatter wrote, of literal bytes, of numbers and of one character.
use Rattle.std.proofs.Common.{◌≡◌, ℕ, ◌+◌, ◌-◌, ◌*◌, ◌^◌, ◌<◌, ◌≤◌, List, [], ◌∷◌, ◌++◌, refl, ap, sym, ◌∙◌, arith}
use Rattle.std.proofs.Common.{append_assoc, append-nil}
use Rattle.std.proofs.lemmas.Str.{chars-nil, chars-append, chars_past_char, chars-IsAscii, IsUtf8-nil, IsUtf8-append}
use Rattle.std.proofs.lemmas.Str.{IsUtf8-encode, IsUtf8-from_ascii}
use Rattle.std.proofs.lemmas.Bool.Decides.{nat_tests}
use Rattle.std.proofs.lemmas.Fmt.{IsAscii-decimal}
use Rattle.std.specs.Char.{IsScalar, encode_utf8}
use Rattle.std.specs.Fmt.{WritesInCalls, decimal}
use Rattle.std.specs.Str.{IsUtf8, chars, chars_after}
use Rattle.std.specs.List.{FoldsTo, concat}
use Rattle.compact_repr.specs.Text.{text_of}
use Rattle.compact_repr.specs.Value.{PlacedText}
use Rattle.compact_repr.specs.Capacity.{Growth}
use Rattle.compact_repr.proofs.PlacementLemmas.{push_str-text}
use Rattle.compact_str.specs.Output.{Writes}

-- the parts that a formatter wrote are one text, which is appended
written-parts : (g : Growth) (v w : PlacedText) (parts : List (List ℕ)) → FoldsTo (Writes g) v parts w
    → IsUtf8 (concat parts) × (w.text ≡ v.text ++ text_of (concat parts))
written-parts g v w [] same = (IsUtf8-nil, rw (chars-nil, append-nil) (ap (λ (x : PlacedText). x.text) (sym same)))
written-parts g v w (part ∷ parts) (x, first, rest) =
    let others = written-parts g x w parts rest in (
      IsUtf8-append part (concat parts) first.is_text others.0,
      others.1
          ∙ ap (λ t. t ++ text_of (concat parts)) (push_str-text g v x (text_of part) first.value)
          ∙ append_assoc v.text (text_of part) (text_of (concat parts))
          ∙ ap (λ t. v.text ++ t) (sym (chars-append part (concat parts) first.is_text)),
    )

pub written-text : (g : Growth) (v w : PlacedText) (bytes : List ℕ) → WritesInCalls (Writes g) v bytes w
    → w.text ≡ v.text ++ text_of bytes
written-text g v w bytes writes = (written-parts g v w writes.parts writes.calls).1
    ∙ ap (λ x. v.text ++ text_of x) writes.whole

-- the characters of literal bytes, of one to four bytes each

last-byte : (c : ℕ) (bytes : List ℕ) → chars_after 0 c bytes ≡ c ∷ chars bytes
unfolding chars
last-byte c [] = refl
last-byte c (b ∷ bytes) = refl

pub text_of-one : (a : ℕ) (bytes : List ℕ) → a < 128 → text_of (a ∷ bytes) ≡ a ∷ text_of bytes
unfolding chars
text_of-one a bytes h = grind (arith, nat_tests, last-byte)

pub text_of-two : (a b : ℕ) (bytes : List ℕ) → 192 ≤ a → a < 224
    → text_of (a ∷ b ∷ bytes) ≡ ((a - 192) * 64 + (b - 128)) ∷ text_of bytes
unfolding chars
text_of-two a b bytes h k = grind (arith, nat_tests, last-byte)

pub text_of-three : (a b c : ℕ) (bytes : List ℕ) → 224 ≤ a → a < 240
    → text_of (a ∷ b ∷ c ∷ bytes) ≡ (((a - 224) * 64 + (b - 128)) * 64 + (c - 128)) ∷ text_of bytes
unfolding chars
text_of-three a b c bytes h k = grind (arith, nat_tests, last-byte)

pub text_of-four : (a b c d : ℕ) (bytes : List ℕ) → 240 ≤ a
    → text_of (a ∷ b ∷ c ∷ d ∷ bytes) ≡ ((((a - 240) * 64 + (b - 128)) * 64 + (c - 128)) * 64 + (d - 128)) ∷ text_of
    bytes
unfolding chars
text_of-four a b c d bytes h = grind (arith, nat_tests, last-byte)

-- the bytes of a number decode to themselves
pub text_of-decimal : (n : ℕ) → n < 2 ^ 64 → text_of (decimal n) ≡ decimal n
text_of-decimal n h = chars-IsAscii (decimal n) (IsAscii-decimal n h)

pub text_of-decimal_append : (n : ℕ) (bytes : List ℕ) → n < 2 ^ 64
    → text_of (decimal n ++ bytes) ≡ decimal n ++ text_of bytes
text_of-decimal_append n bytes h =
    chars-append (decimal n) bytes (IsUtf8-from_ascii (decimal n) (IsAscii-decimal n h))
    ∙ ap (λ t. t ++ text_of bytes) (text_of-decimal n h)

-- the bytes of a character decode to it
pub text_of-char : (c : ℕ) (bytes : List ℕ) → IsScalar c → text_of (encode_utf8 c ++ bytes) ≡ c ∷ text_of bytes
text_of-char c bytes is =
    chars-append (encode_utf8 c) bytes (IsUtf8-encode c is)
    ∙ ap (λ t. t ++ text_of bytes) (chars_past_char (encode_utf8 c) [] c (IsUtf8-encode c is)
    (sym (append-nil (encode_utf8 c))) ∙ ap (λ t. c ∷ t) chars-nil)
