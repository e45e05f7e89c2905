-- For crates that call this one: what the clauses of several calls imply together. `caller_facts` is named at the
-- crate's root,
-- as `#![tactic(auto, using(compact_str::proofs::ForCallers::caller_facts))]`, or above one function, and the others
-- beside it
-- or alone.
use Rattle.std.proofs.Common.{◌≡◌, ℕ, Bool, IsTrue, false, nat_eq, ◌+◌, ◌^◌, ◌<◌, List, [], ◌∷◌, ◌++◌, drop, ap, sym}
use Rattle.std.proofs.Common.{subst, ◌∙◌, append_assoc, append-nil}
pub use Rattle.std.proofs.lemmas.Str.{chars_from_encodes}
use Rattle.std.proofs.lemmas.Str.{chars-nil, chars-append, chars_past_char, encodes-chars, encodes-IsAscii}
use Rattle.std.proofs.lemmas.Str.{IsUtf8-string_bytes, IsUtf8-append, IsUtf8-drop, IsUtf8-from_is_utf8}
use Rattle.std.proofs.lemmas.Str.{is_utf8-from_IsUtf8, encode_ascii}
use Rattle.std.specs.Char.{len_utf8, encode_utf8}
use Rattle.std.specs.Cmp.Lexicographic.{same_text}
use lib.Pointwise.{pointwise}
use Rattle.std.proofs.lemmas.Fmt.{IsAscii-decimal, IsAscii-signed}
use lib.IntN.{ℤ}
use lib.Signed.{mag}
use Rattle.std.specs.Fmt.{decimal, signed_decimal}
use Rattle.std.proofs.lemmas.Bool.{false_from_ne_true}
use Rattle.compact_codec.proofs.Utf8TextLemmas.{utf8_lossy_text-IsUtf8}
use Rattle.std.specs.Str.{IsUtf8, is_utf8, IsCharBoundary}
use Rattle.std.specs.Str.Pattern.{HasCharAt}
use Rattle.compact_repr.specs.Text.{text_of, utf8}
use Rattle.compact_repr.specs.Cut.{IsBoundary, text_before, text_after}
use Rattle.compact_repr.specs.Packed.{IsPackedFor}
pub use Rattle.compact_text.proofs.Texts.{length-utf8, utf8-text_of, size-text_of, size-append, empty_text}
pub use Rattle.compact_text.proofs.Texts.{text_of-empty}
pub use Rattle.compact_repr.proofs.PlacementLemmas.{push_str-text}
pub use Rattle.compact_text.proofs.CutLemmas.{text_before-text_after, text_before-append, text_after-append}
pub use Rattle.compact_text.proofs.CutLemmas.{boundary-text, text_of-take, text_of-drop, boundary-within}
pub use Rattle.compact_text.proofs.CutLemmas.{size-text_before, size-text_after}
pub use Rattle.compact_repr.proofs.PackedTexts.{one_text}
pub use Rattle.compact_repr.proofs.ByteOrder.{utf8-same}
pub use Rattle.compact_text.proofs.AsciiCase.{lowercase-bytes, uppercase-bytes}
pub use Rattle.compact_str.proofs.RoomLemmas.{appended-bytes, pushed-bytes}
pub use Rattle.compact_str.proofs.PositionLemmas.{text_before-text_before, boundary-seam, before_bytes, after_bytes}
pub use Rattle.compact_str.proofs.PositionLemmas.{replaced-bytes, cut-bytes}
pub use Rattle.compact_str.proofs.CollectLemmas.{join-map}
pub use Rattle.compact_str.proofs.KeyFacts.{texts-from_same, same-from_texts, texts-from_equal}
pub use Rattle.compact_str.proofs.Literals.{written-text, text_of-one, text_of-two, text_of-three, text_of-four}
pub use Rattle.compact_str.proofs.Literals.{text_of-decimal, text_of-decimal_append, text_of-char}
use Rattle.compact_str.proofs.Encoded.{encoded_facts}

-- the text from the place that `find` returned is the character and the rest. `as_str` says that boundaries are before
-- and after it
found-after : (t s : List ℕ) (c i j k : ℕ) → HasCharAt c s i j → text_of s ≡ t → IsUtf8 s → k ≡ i + len_utf8 c
    → IsBoundary t k
found-after t s c i j k h e u is = boundary-text s k e u (subst (λ (n : ℕ). IsCharBoundary s n) (sym is) h.after)

pub found-text : (t s : List ℕ) (c i j k : ℕ) → HasCharAt c s i j → text_of s ≡ t → IsUtf8 s → IsCharBoundary s i
    → k ≡ i + len_utf8 c
    → t ≡ text_before t i ++ c ∷ text_after t k
found-text t s c i j k h e u b is =
    let boundary : IsBoundary t i = boundary-text s i e u b in
    let next : drop i s ≡ encode_utf8 c ++ drop k s = h.split
    ∙ ap (λ (n : ℕ). encode_utf8 c ++ drop n s) (h.ends ∙ sym is) in
    let rest : text_after t i ≡ c ∷ text_after t k =
    sym (text_of-drop s i e u boundary)
    ∙ chars_past_char (drop i s) (drop k s) c (IsUtf8-drop s i u b) next
    ∙ ap (λ x. c ∷ x) (text_of-drop s k e u (found-after t s c i j k h e u is)) in
    text_before-text_after t i ∙ ap (λ x. text_before t i ++ x) rest

-- values with equal packed bytes have equal texts
pub same-packed : (b c t s : List ℕ) (same : Bool) → IsPackedFor b t → IsPackedFor c s → same ≡ pointwise nat_eq b c
    → IsTrue same → t ≡ s
same-packed b c t s same p q test answer = one_text b t s p (subst (λ (x : List ℕ). IsPackedFor x s)
    (sym (same_text b c (sym answer ∙ test))) q)

-- the bytes of a text decoded from bytes, of a pushed ASCII character and what is appended after it, and of a number

pub made-bytes : (t bytes : List ℕ) → t ≡ text_of bytes → IsUtf8 bytes → utf8 t ≡ bytes
made-bytes t bytes e u = ap utf8 e ∙ encodes-chars bytes u

pub ascii-bytes : (c : ℕ) (bytes : List ℕ) → c < 128 → encode_utf8 c ++ bytes ≡ c ∷ bytes
ascii-bytes c bytes h = ap (λ x. x ++ bytes) (encode_ascii c h)

pub utf8-decimal : (n : ℕ) → n < 2 ^ 64 → utf8 (decimal n) ≡ decimal n
utf8-decimal n h = encodes-IsAscii (decimal n) (IsAscii-decimal n h)

pub utf8-signed : (z : ℤ) → mag z < 2 ^ 63 → utf8 (signed_decimal z) ≡ signed_decimal z
utf8-signed z h = encodes-IsAscii (signed_decimal z) (IsAscii-signed z h)

-- bytes that are not valid
pub invalid-is_utf8 : (bytes : List ℕ) → ¬ (IsUtf8 bytes) → is_utf8 bytes ≡ false
invalid-is_utf8 bytes none = false_from_ne_true (is_utf8 bytes) (λ t. none (IsUtf8-from_is_utf8 bytes t))

-- clauses in characters, and most others. In both this set and the next, `ascii-bytes` is first: after all of these,
-- `grind` would not come to it.
pub ruleset caller_facts = (
  ascii-bytes,
  length-utf8,
  utf8-text_of,
  size-text_of,
  size-append,
  chars-nil,
  chars-append,
  IsUtf8-append,
  append_assoc,
  text_before-append,
  text_after-append,
  text_before-text_before,
  boundary-within,
  written-text,
  found-text,
  text_of-one,
  text_of-two,
  text_of-three,
  text_of-four,
  text_of-decimal,
  text_of-decimal_append,
  one_text,
  same-packed,
  texts-from_same,
  same-from_texts,
  texts-from_equal,
  chars_from_encodes,
  join-map,
)

-- clauses in bytes, as `utf8 v.text ≡ string_bytes s`: the bytes after a call whose clauses are in characters,
-- boundaries of the
-- bytes, and that equal bytes are equal texts. Named beside `caller_facts` or alone.
pub ruleset byte_facts = (
  ascii-bytes,
  encoded_facts,
  made-bytes,
  appended-bytes,
  pushed-bytes,
  utf8-decimal,
  utf8-signed,
  IsUtf8-string_bytes,
  IsUtf8-from_is_utf8,
  utf8-same,
  before_bytes,
  after_bytes,
  replaced-bytes,
  cut-bytes,
  lowercase-bytes,
  uppercase-bytes,
  append_assoc,
)

-- decoded bytes: valid ones are their own lossy text, and std's test of validity
pub ruleset decoding_facts = (utf8_lossy_text-IsUtf8, is_utf8-from_IsUtf8, invalid-is_utf8)

-- for a loop over `chars`, where the invariant says what holds with the characters left, `text_of (chars_rest
-- l.c-iterator)`:
-- the next one, and the end
pub ruleset character_loop_facts = (text_of-char, text_of-empty, size-append, append-nil, append_assoc)
