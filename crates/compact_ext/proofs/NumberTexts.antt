-- The text of a number as bytes, which are ASCII and few.
use Rattle.std.proofs.Common.{◌≡◌, ℕ, ◌^◌, ◌<◌, ◌≤◌, Bool, true, false, List, length, ap, sym, ◌∙◌, subst, arith}
use Rattle.std.proofs.lemmas.Str.{chars-IsAscii, IsUtf8-from_ascii}
use Rattle.std.proofs.lemmas.Str.Ascii.{IsAscii-cons}
use Rattle.std.proofs.lemmas.Fmt.{IsAscii-decimal, length-decimal-le}
use Rattle.std.proofs.lemmas.Grind.{common_steps}
use Rattle.std.specs.Str.{IsAscii, IsUtf8}
use Rattle.compact_str.specs.Text.{size, text_of}
use Rattle.compact_repr.specs.Packed.{IsPackedFor, packed_bytes}
use Rattle.compact_text.proofs.Texts.{size-text_of}
use Rattle.compact_repr.proofs.PackedTexts.{packs-text}
use Rattle.compact_str.specs.Value.{PlacedText}
use Rattle.compact_str.specs.Capacity.{Growth, inline_placement}
use Rattle.compact_str.specs.Words.{IsPlacedAsNew}
use Rattle.compact_ext.specs.Digits.{number_text}

pub IsAscii-number : (s : Bool) (n : ℕ) → n < 2 ^ 64 → IsAscii (number_text s n)
IsAscii-number true n h = IsAscii-cons 45 _ (omega arith) (IsAscii-decimal n h)
IsAscii-number false n h = IsAscii-decimal n h

pub length-number : (s : Bool) (n : ℕ) → n < 2 ^ 64 → length (number_text s n) ≤ 21
length-number true n h = let e = length-decimal-le 20 n (omega arith) (omega arith) h in omega (arith, e)
length-number false n h = let e = length-decimal-le 20 n (omega arith) (omega arith) h in omega (arith, e)

pub IsUtf8-number : (s : Bool) (n : ℕ) → n < 2 ^ 64 → IsUtf8 (number_text s n)
IsUtf8-number s n h = IsUtf8-from_ascii _ (IsAscii-number s n h)

pub text_of-number : (s : Bool) (n : ℕ) → n < 2 ^ 64 → text_of (number_text s n) ≡ number_text s n
text_of-number s n h = chars-IsAscii _ (IsAscii-number s n h)

-- the packed bytes of a number are those of its text
pub number-is_packed : (s : Bool) (n : ℕ) (row : List ℕ) → n < 2 ^ 64 → row ≡ packed_bytes (number_text s n)
    → IsPackedFor row (number_text s n)
number-is_packed s n row h e =
    let few : length (number_text s n) ≤ 21 = length-number s n h in
    let stands : IsPackedFor (packed_bytes (number_text s n)) (text_of (number_text s n)) =
    packs-text (number_text s n) (IsUtf8-number s n h) (omega arith) in
    subst (λ (bytes : List ℕ). IsPackedFor bytes (number_text s n)) (sym e)
    (subst (λ (t : List ℕ). IsPackedFor (packed_bytes (number_text s n)) t) (text_of-number s n h) stands)

pub size-number : (s : Bool) (n : ℕ) → n < 2 ^ 64 → size (number_text s n) ≤ 21
size-number s n h =
    let e = ap size (sym (text_of-number s n h)) ∙ size-text_of _ (IsUtf8-number s n h) in
    let few = length-number s n h in
    omega (arith, e, few)

pub new-short : (g : Growth) (v : PlacedText) → size v.text ≤ 24 → v.placement ≡ inline_placement → IsPlacedAsNew g v
new-short g v h e = grind (arith, common_steps)

pub ruleset number_facts = (size-number, new-short)
