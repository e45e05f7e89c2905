-- Retaining characters in a slice of bytes.
use Rattle.std.proofs.Common.{◌≡◌, ◌∙◌, refl, ap, sym, subst, arith, ℕ, ◌+◌, ◌-◌, ◌≤◌, ◌<◌, List, [], ◌∷◌, ◌++◌, length}
use Rattle.std.proofs.Common.{take, drop, Bool, true, false, cond, append_assoc, append-nil, length-append}
use Rattle.std.proofs.lemmas.List.{drop-drop, drop_all, length-drop, take_at}
use Rattle.std.proofs.lemmas.Str.{drop_past_char, chars_past_char, IsUtf8-past_char, IsUtf8-append, IsUtf8-encode, encode_ascii}
use Rattle.std.proofs.lemmas.Bool.Decides.{nat_tests}
use Rattle.std.proofs.lemmas.Str.{chars-nil}
use Rattle.std.specs.Char.{len_utf8, IsScalar}
use Rattle.std.specs.Fn.{Called, Mut}
use Rattle.std.specs.Str.{IsUtf8}
use lib.Utf8.{encode}
use Rattle.compact_text.specs.Text.{text_of}
use Rattle.compact_text.specs.Retain.{RetainsCharsTo}
use Rattle.compact_text.proofs.CutLemmas.{text_of-last}

pub after_char : (slice rest : List ℕ) (at c : ℕ) → drop at slice ≡ encode c ++ rest
    → drop at slice ≡ encode c ++ drop (at + len_utf8 c) slice
after_char slice rest at c e = e ∙ ap (λ (l : List ℕ). encode c ++ l) (sym (drop_past_char slice rest at c e))

pub utf8-after_char : (slice rest : List ℕ) (at c : ℕ) → IsUtf8 (drop at slice) → drop at slice ≡ encode c ++ rest
    → IsUtf8 (drop (at + len_utf8 c) slice)
utf8-after_char slice rest at c u e = subst IsUtf8 (sym (drop_past_char slice rest at c e))
    (IsUtf8-past_char (drop at slice) rest c u e)

keeps-step : {F : Type 0} (g : Mut F (ℕ × Unit {0}) Bool) (f h last : F) (c : ℕ) (b : Bool) (t u : List ℕ)
    → Called g f (c, tt) b h → RetainsCharsTo g h t u last → RetainsCharsTo g f (c ∷ t) (cond b (c ∷ u) u) last
keeps-step g f h last c true t u s k = (true ∷ k.0, omega (arith, k.1), (h, s, k.2), ap (λ l. c ∷ l) k.3)
keeps-step g f h last c false t u s k = (false ∷ k.0, omega (arith, k.1), (h, s, k.2), k.3)

pub keeps-nil : {F : Type 0} (g : Mut F (ℕ × Unit {0}) Bool) (f : F) → RetainsCharsTo g f [] [] f
keeps-nil g f = ([], refl, refl, refl)

-- the retained rest is appended to what is retained so far
abbrev pub Continues : {F : Type 0} → Mut F (ℕ × Unit {0}) Bool → F → List ℕ → F → List ℕ → List ℕ → Type 0
Continues {F} g first whole f done rest = (u : List ℕ) (last : F) → RetainsCharsTo g f rest u last
    → RetainsCharsTo g first whole (done ++ u) last

pub continues-kept : {F : Type 0} (g : Mut F (ℕ × Unit {0}) Bool) (first f h : F) (whole t r done : List ℕ) (c : ℕ)
    → t ≡ c ∷ r → Called g f (c, tt) true h → Continues g first whole f done t
    → Continues g first whole h (done ++ c ∷ []) r
continues-kept g first f h whole t r done c e called so u last k =
    subst (λ (l : List ℕ). RetainsCharsTo g first whole l last) (sym (append_assoc done (c ∷ []) u))
    (so (c ∷ u) last (subst (λ (x : List ℕ). RetainsCharsTo g f x (c ∷ u) last) (sym e)
    (keeps-step g f h last c true r u called k)))

pub continues-dropped : {F : Type 0} (g : Mut F (ℕ × Unit {0}) Bool) (first f h : F) (whole t r done : List ℕ) (c : ℕ)
    → t ≡ c ∷ r → Called g f (c, tt) false h → Continues g first whole f done t → Continues g first whole h done r
continues-dropped g first f h whole t r done c e called so u last k =
    so u last (subst (λ (x : List ℕ). RetainsCharsTo g f x u last) (sym e) (keeps-step g f h last c false r u called k))

pub continues-end : {F : Type 0} (g : Mut F (ℕ × Unit {0}) Bool) (first f : F) (whole done : List ℕ)
    → Continues g first whole f done [] → RetainsCharsTo g first whole done f
continues-end g first f whole done so = subst (λ (l : List ℕ). RetainsCharsTo g first whole l f) (append-nil done)
    (so [] f (keeps-nil g f))

pub utf8-pushed : (bytes : List ℕ) (c : ℕ) → IsScalar c → IsUtf8 bytes → IsUtf8 (bytes ++ encode c)
utf8-pushed bytes c s u = IsUtf8-append bytes (encode c) u (IsUtf8-encode c s)

pub text_of-pushed : (bytes : List ℕ) (c : ℕ) → IsScalar c → IsUtf8 bytes
    → text_of (bytes ++ encode c) ≡ text_of bytes ++ c ∷ []
text_of-pushed bytes c s u = text_of-last (bytes ++ encode c) bytes c (utf8-pushed bytes c s u) u refl

-- slices that agree from one position on agree from a later one on
pub drop-later : (xs ys : List ℕ) (i j : ℕ) → i ≤ j → drop i xs ≡ drop i ys → drop j xs ≡ drop j ys
drop-later xs ys i j h e =
    let later : i + (j - i) ≡ j = omega arith in
    ap (λ (n : ℕ). drop n xs) (sym later) ∙ sym (drop-drop (j - i) i xs) ∙ ap (λ (l : List ℕ). drop (j - i) l) e
    ∙ drop-drop (j - i) i ys ∙ ap (λ (n : ℕ). drop n ys) later

-- the loop's state: the retained part is at the front, and the part not yet tested from `read` on
abbrev pub HasRetained : {F : Type 0} → Mut F (ℕ × Unit {0}) Bool → F → List ℕ → F → List ℕ → ℕ → ℕ → Type 0
HasRetained g first whole f slice kept read =
    IsUtf8 (drop read slice) × IsUtf8 (take kept slice) × Continues g first whole f (text_of (take kept slice))
    (text_of (drop read slice))

-- the bytes of the character that is next
first_bytes : (slice : List ℕ) (read n c : ℕ) → read + n ≤ length slice
    → drop read slice ≡ encode c ++ drop (read + n) slice → take n (drop read slice) ≡ encode c
first_bytes slice read n c within e =
    let rest : List ℕ = drop (read + n) slice in
    let width : n ≡ length (encode c) = omega (arith, within, ap length e, length-append (encode c) rest, length-drop read slice, length-drop (read + n) slice) in
    ap (take n) e ∙ take_at (encode c) rest n (sym width)

-- a character is tested, and moved to where the retained part ends if it is retained
pub retained-next : {F : Type 0} (g : Mut F (ℕ × Unit {0}) Bool) (first f h : F) (whole slice now : List ℕ)
    (kept next read n c : ℕ) (said : Bool)
    → Called g f (c, tt) said h → IsScalar c → kept ≤ read → drop read slice ≡ encode c ++ drop (read + n) slice
    → IsUtf8 (drop (read + n) slice)
    → read + n ≤ length slice → take next now ≡ cond said (take kept slice ++ take n (drop read slice))
    (take kept slice) → drop (kept + n) now ≡ drop (kept + n) slice
    → HasRetained g first whole f slice kept read → HasRetained g first whole h now next (read + n)
retained-next g first f h whole slice now kept next read n c true called s order e u within front behind stands =
    let later : drop (read + n) now ≡ drop (read + n) slice =
    drop-later now slice (kept + n) (read + n) (omega (arith, order)) behind in
    let rest = chars_past_char (drop read slice) (drop (read + n) slice) c stands.0 e in
    let put : take next now ≡ take kept slice ++ encode c = front
    ∙ ap (λ (l : List ℕ). take kept slice ++ l) (first_bytes slice read n c within e) in
    let on = continues-kept g first f h whole (text_of (drop read slice)) (text_of (drop (read + n) slice))
    (text_of (take kept slice)) c rest called stands.2 in
    rw (later, put, text_of-pushed (take kept slice) c s stands.1) (u, utf8-pushed (take kept slice) c s stands.1, on)
retained-next g first f h whole slice now kept next read n c false called s order e u within front behind stands =
    let later : drop (read + n) now ≡ drop (read + n) slice =
    drop-later now slice (kept + n) (read + n) (omega (arith, order)) behind in
    let rest = chars_past_char (drop read slice) (drop (read + n) slice) c stands.0 e in
    let on = continues-dropped g first f h whole (text_of (drop read slice)) (text_of (drop (read + n) slice))
    (text_of (take kept slice)) c rest called stands.2 in
    rw (later, front) (u, stands.1, on)

pub retained-last : {F : Type 0} (g : Mut F (ℕ × Unit {0}) Bool) (first f : F) (whole slice : List ℕ) (kept read : ℕ)
    → length slice ≤ read → HasRetained g first whole f slice kept read
    → RetainsCharsTo g first whole (text_of (take kept slice)) f
retained-last g first f whole slice kept read h stands =
    let none : text_of (drop read slice) ≡ [] = ap (λ (l : List ℕ). text_of l) (drop_all read slice h) ∙ chars-nil in
    continues-end g first f whole (text_of (take kept slice))
    (subst (λ (l : List ℕ). Continues g first whole f (text_of (take kept slice)) l) none stands.2)

scalar_ascii : (c : ℕ) → c < 128 → IsScalar c
scalar_ascii c low = grind (arith, nat_tests)

pub utf8-pushed_ascii : (bytes : List ℕ) (c : ℕ) → c < 128 → IsUtf8 bytes → IsUtf8 (bytes ++ c ∷ [])
utf8-pushed_ascii bytes c low u =
    subst (λ (x : List ℕ). IsUtf8 (bytes ++ x)) (encode_ascii c low) (utf8-pushed bytes c (scalar_ascii c low) u)

pub text_of-pushed_ascii : (bytes : List ℕ) (c : ℕ) → c < 128 → IsUtf8 bytes
    → text_of (bytes ++ c ∷ []) ≡ text_of bytes ++ c ∷ []
text_of-pushed_ascii bytes c low u = ap (λ x. text_of (bytes ++ x)) (sym (encode_ascii c low))
    ∙ text_of-pushed bytes c (scalar_ascii c low) u
