-- The part of a text between two boundaries.
use Rattle.std.proofs.Common.{◌≡◌, ℕ, ◌+◌, ◌-◌, ◌≤◌, List, [], ◌∷◌, ◌++◌, take, drop, refl, ap, sym, ◌∙◌, arith}
use Rattle.std.proofs.Common.{append_assoc}
use Rattle.std.proofs.lemmas.Str.{len_utf8_bounds, IsUtf8-drop}
use Rattle.std.specs.Str.{IsUtf8}
use Rattle.std.specs.Char.{len_utf8}
use Rattle.compact_text.specs.Text.{size, text_of}
use Rattle.compact_text.specs.Cut.{IsBoundary, text_before, text_after, substring}
use Rattle.compact_text.proofs.Texts.{size-append}
use Rattle.compact_text.proofs.CutLemmas.{text_before-text_after, text_before-append, text_after-append}
use Rattle.compact_text.proofs.CutLemmas.{size-text_before, boundary-bytes, text_of-take, text_of-drop, utf8-take}

abbrev head_or : ℕ → List ℕ → ℕ
head_or d [] = d
head_or d (x ∷ xs) = x

abbrev tail_of : List ℕ → List ℕ
tail_of [] = []
tail_of (x ∷ xs) = xs

-- of two cuts, the front of the later one extends that of the earlier one
two_cuts : (a b c d : List ℕ) → a ++ b ≡ c ++ d → size a ≤ size c → (m : List ℕ) × (c ≡ a ++ m) × (b ≡ m ++ d)
two_cuts [] b c d e h = (c, refl, e)
two_cuts (x ∷ xs) b [] d e h = absurd (let wide = len_utf8_bounds x in omega (arith, wide.0, h))
two_cuts (x ∷ xs) b (y ∷ ys) d e h =
    let first : x ≡ y = ap (head_or x) e in
    let shorter : size xs ≤ size ys = omega (arith, h, ap len_utf8 first) in
    let rest = two_cuts xs b ys d (ap tail_of e) shorter in
    (rest.0, ap (λ (c : ℕ). c ∷ ys) (sym first) ∙ ap (λ (l : List ℕ). x ∷ l) rest.1, rest.2)

-- the text is the parts before, between and after the boundaries
pub substring-parts : (t : List ℕ) (i j : ℕ) → IsBoundary t i → IsBoundary t j → i ≤ j
    → (text_after t i ≡ substring t i j ++ text_after t j) × (size (substring t i j) ≡ j - i)
substring-parts t i j h k order =
    let first = size-text_before t i h in
    let last = size-text_before t j k in
    let cuts = two_cuts (text_before t i) (text_after t i) (text_before t j) (text_after t j)
    (sym (text_before-text_after t i) ∙ text_before-text_after t j) (omega (arith, first, last, order)) in
    let wide : size cuts.0 ≡ j - i = omega (arith, first, last, ap size cuts.1, size-append (text_before t i) cuts.0) in
    let is : substring t i j ≡ cuts.0 = ap (λ (l : List ℕ). text_before l (j - i)) cuts.2
    ∙ text_before-append cuts.0 (text_after t j) (j - i) wide in
    (rw is cuts.2, rw is wide)

-- the second of any three parts is between two boundaries
pub parts-substring : (t a m b : List ℕ) (i j : ℕ) → t ≡ a ++ m ++ b → size a ≡ i → size a + size m ≡ j
    → IsBoundary t i × IsBoundary t j × (substring t i j ≡ m)
parts-substring t a m b i j e first last =
    let grouped : t ≡ a ++ (m ++ b) = e ∙ append_assoc a m b in
    let behind : text_after t i ≡ m ++ b = ap (λ (l : List ℕ). text_after l i) grouped
    ∙ text_after-append a (m ++ b) i first in
    let wide : size m ≡ j - i = omega (arith, first, last) in (
      (a, m ++ b, record { parts = grouped; position = first }),
      (a ++ m, b, record { parts = e; position = size-append a m ∙ last }),
      ap (λ (l : List ℕ). text_before l (j - i)) behind ∙ text_before-append m b (j - i) wide,
    )

-- the end of the middle is a boundary of the rest
pub boundary-substring : (t : List ℕ) (i j : ℕ) → IsBoundary t i → IsBoundary t j → i ≤ j
    → IsBoundary (text_after t i) (j - i)
boundary-substring t i j h k order =
    let parts = substring-parts t i j h k order in
    (substring t i j, text_after t j, record { parts = parts.0; position = parts.1 })

-- the bytes between two boundaries are UTF-8, and encode the part between them
pub part-text : {t : List ℕ} (bytes : List ℕ) (i j : ℕ) → text_of bytes ≡ t → IsUtf8 bytes → IsBoundary t i
    → IsBoundary t j → i ≤ j
    → IsUtf8 (take (j - i) (drop i bytes)) × (text_of (take (j - i) (drop i bytes)) ≡ substring t i j)
part-text {t = t} bytes i j e u first last order =
    let rest = text_of-drop bytes i e u first in
    let behind = IsUtf8-drop bytes i u (boundary-bytes bytes i e u first) in
    let cut = boundary-substring t i j first last order in
    (utf8-take (drop i bytes) (j - i) rest behind cut, text_of-take (drop i bytes) (j - i) rest behind cut)
