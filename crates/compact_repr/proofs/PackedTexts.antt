-- The text of 24 packed bytes.
use Rattle.std.proofs.Common.{◌≡◌, ℕ, ◌+◌, ◌-◌, ◌/◌, ◌<◌, ◌≤◌, List, [], ◌∷◌, ◌++◌, length, take, get_or, refl, ap, sym}
use Rattle.std.proofs.Common.{◌∙◌, subst, arith, length-append, append_assoc, inl, inr, ⊎_elim}
use Prim.Native.Nat.{suc}
use Rattle.std.specs.Prelude.{replicate, ◌⊎◌}
use Rattle.std.specs.Str.{IsUtf8, IsAscii}
use Rattle.std.proofs.lemmas.Bool.{lt-ltb, le-ltb, ltb-true, cond-true, cond-false, cond_both, cases_lt}
use Rattle.std.proofs.lemmas.List.{append-nil, length-take-le, length-replicate, take_all, take_at, take-take}
use Rattle.std.proofs.lemmas.List.{get_or_push, get_or-append-add, get_or-set_same, take-set-le, length-set}
use Rattle.std.proofs.lemmas.Str.{length-encode, len_utf8_bounds, encodes-chars, scalars-chars, chars-encodes}
use Rattle.std.proofs.lemmas.Str.{IsAscii-take, IsUtf8-from_ascii}
use Rattle.std.proofs.lemmas.Str.Ascii.{IsAscii-more}
use lib.Dec.{ltb}
use lib.ListN.{set}
use lib.Utf8.{encode, encodes, next}
use Rattle.compact_text.specs.Text.{size, utf8, text_of}
use Rattle.compact_repr.specs.Packed.{IsPackedFor, packed_len, packed_text, packed_bytes}
use Rattle.compact_text.proofs.Texts.{length-utf8, size-text_of}

-- the last byte, if any, is at most 191
abbrev EndsLow : List ℕ → Type 0
EndsLow bytes = (n : ℕ) → length bytes ≡ suc n → get_or bytes n 0 < 192

low-push : (bytes : List ℕ) (last : ℕ) → last < 192 → EndsLow (bytes ++ last ∷ [])
low-push bytes last low n e =
    let place : length bytes ≡ n = omega (arith, e, length-append bytes (last ∷ [])) in
    subst (λ (byte : ℕ). byte < 192) (sym (get_or_push bytes last 0 n place)) low

-- the last byte of a character is below 128, or from 128 to 191
low-encode : (c : ℕ) → EndsLow (encode c)
unfolding encode
low-encode c =
    cond_both (ltb c 128) _ _ EndsLow (λ e. low-push [] c (omega (arith, ltb-true c 128 e)))
    (λ _. cond_both (ltb c 2048) _ _ EndsLow (λ _. low-push ((192 + c / 64) ∷ []) (next c) (omega arith))
    (λ _. cond_both (ltb c 65536) _ _ EndsLow (λ _. low-push ((224 + c / 4096) ∷ next (c / 64) ∷ []) (next c)
    (omega arith))
    (λ _. low-push ((240 + c / 262144) ∷ next (c / 4096) ∷ next (c / 64) ∷ []) (next c) (omega arith))))

low-utf8 : (t : List ℕ) → EndsLow (utf8 t)
low-utf8 [] n e = absurd (omega arith)
low-utf8 (c ∷ []) n e =
    let alone = append-nil (encode c) in
    subst (λ (bytes : List ℕ). get_or bytes n 0 < 192) (sym alone) (low-encode c n (ap length (sym alone) ∙ e))
low-utf8 (c ∷ d ∷ ds) n e =
    let front : List ℕ = encode c in
    let rest : List ℕ = encodes (d ∷ ds) in
    let m : ℕ = n - length front in
    let whole = length-append front rest in
    let behind = length-append (encode d) (encodes ds) in
    let some = length-encode d in
    let width = len_utf8_bounds d in
    let more : length rest ≡ suc m = omega (arith, e, whole, behind, some, width.0) in
    let place : n ≡ length front + m = omega (arith, e, whole, behind, some, width.0) in
    let last : get_or (utf8 (c ∷ d ∷ ds)) n 0 ≡ get_or rest m 0 =
    ap (λ (k : ℕ). get_or (utf8 (c ∷ d ∷ ds)) k 0) place ∙ get_or-append-add front rest m 0 in
    subst (λ (byte : ℕ). byte < 192) (sym last) (low-utf8 (d ∷ ds) m more)

low-last : (bytes : List ℕ) (n : ℕ) → IsUtf8 bytes → length bytes ≡ suc n → get_or bytes n 0 < 192
low-last bytes n u e = subst (λ (ys : List ℕ). get_or ys n 0 < 192) u.1.1 (low-utf8 u.0 n (ap length u.1.1 ∙ e))

-- the length is 24 if the last byte is low, and otherwise encoded in it
pub len-full : (bytes : List ℕ) → get_or bytes 23 0 < 192 → packed_len bytes ≡ 24
len-full bytes low = cond-true _ _ _ (lt-ltb (get_or bytes 23 0) 192 low)

pub len-high : (bytes : List ℕ) → 192 ≤ get_or bytes 23 0 → packed_len bytes ≡ get_or bytes 23 0 - 192
len-high bytes high = cond-false _ _ _ (le-ltb (get_or bytes 23 0) 192 high)

len-short : (bytes : List ℕ) (n : ℕ) → get_or bytes 23 0 ≡ 192 + n → packed_len bytes ≡ n
len-short bytes n last =
    cond-false _ _ _ (le-ltb (get_or bytes 23 0) 192 (omega (arith, last))) ∙ omega (arith, last)

pub len-most : (bytes : List ℕ) → get_or bytes 23 0 ≤ 215 → packed_len bytes ≤ 24
len-most bytes within =
    ⊎_elim
    (λ (low : get_or bytes 23 0 < 192). let e = len-full bytes low in omega (arith, e))
    (λ (high : 192 ≤ get_or bytes 23 0). let e : packed_len bytes ≡ get_or bytes 23 0 - 192 =
    cond-false _ _ _ (le-ltb (get_or bytes 23 0) 192 high) in omega (arith, e, within))
    (cases_lt (get_or bytes 23 0) 192)

-- the encoded length is the size of the text, and the first bytes are the text's

pub packed-len : (bytes t : List ℕ) → IsPackedFor bytes t → packed_len bytes ≡ size t
packed-len bytes t p =
    ⊎_elim
    (λ (h : (size t ≡ 24) × (bytes ≡ utf8 t)).
    len-full bytes (low-last bytes 23 (t, (p.text, sym h.1)) (ap length h.1 ∙ length-utf8 t ∙ h.0)) ∙ sym h.0)
    (λ (h : (size t ≤ 23) × (take (size t) bytes ≡ utf8 t) × (get_or bytes 23 0 ≡ 192 + size t)). len-short bytes
    (size t) h.2)
    p.stands

pub packed-most : (bytes t : List ℕ) → IsPackedFor bytes t → size t ≤ 24
packed-most bytes t p =
    ⊎_elim
    (λ (h : (size t ≡ 24) × (bytes ≡ utf8 t)). let e = h.0 in omega (arith, e))
    (λ (h : (size t ≤ 23) × (take (size t) bytes ≡ utf8 t) × (get_or bytes 23 0 ≡ 192 + size t)). let e = h.0 in
    omega (arith, e))
    p.stands

pub packed-last : (bytes t : List ℕ) → IsPackedFor bytes t → get_or bytes 23 0 ≤ 215
packed-last bytes t p =
    ⊎_elim
    (λ (h : (size t ≡ 24) × (bytes ≡ utf8 t)).
    let low = low-last bytes 23 (t, (p.text, sym h.1)) (ap length h.1 ∙ length-utf8 t ∙ h.0) in omega (arith, low))
    (λ (h : (size t ≤ 23) × (take (size t) bytes ≡ utf8 t) × (get_or bytes 23 0 ≡ 192 + size t)). let most = h.0 in
    let last = h.2 in omega (arith, most, last))
    p.stands

packed-front : (bytes t : List ℕ) → IsPackedFor bytes t → take (packed_len bytes) bytes ≡ utf8 t
packed-front bytes t p =
    ap (λ (n : ℕ). take n bytes) (packed-len bytes t p)
    ∙ ⊎_elim
    (λ (h : (size t ≡ 24) × (bytes ≡ utf8 t)). ap (take (size t)) h.1
    ∙ take_all (size t) (utf8 t) (omega (arith, length-utf8 t)))
    (λ (h : (size t ≤ 23) × (take (size t) bytes ≡ utf8 t) × (get_or bytes 23 0 ≡ 192 + size t)). h.1)
    p.stands

pub packed-utf8 : (bytes t : List ℕ) → IsPackedFor bytes t → IsUtf8 (take (packed_len bytes) bytes)
packed-utf8 bytes t p = (t, (p.text, sym (packed-front bytes t p)))

pub packed-text : (bytes t : List ℕ) → IsPackedFor bytes t → packed_text bytes ≡ t
packed-text bytes t p = ap text_of (packed-front bytes t p) ∙ chars-encodes t p.text

pub one_text : (bytes t s : List ℕ) → IsPackedFor bytes t → IsPackedFor bytes s → t ≡ s
one_text bytes t s p q = sym (packed-text bytes t p) ∙ packed-text bytes s q

-- bytes that pack a text pack the one that is read from them
pub packed-again : (bytes t : List ℕ) → IsPackedFor bytes t → IsPackedFor bytes (packed_text bytes)
packed-again bytes t p = subst (λ (s : List ℕ). IsPackedFor bytes s) (sym (packed-text bytes t p)) p

pub packed-seen : {t : List ℕ} (bytes : List ℕ) → packed_text bytes ≡ t → IsPackedFor bytes (packed_text bytes)
    → IsPackedFor bytes t
packed-seen bytes e p = subst (λ (s : List ℕ). IsPackedFor bytes s) e p

-- bytes that pack a text

pub packs-short : (bytes : List ℕ) (n : ℕ) → length bytes ≡ 24 → n < 24 → IsUtf8 (take n bytes)
    → get_or bytes 23 0 ≡ 192 + n
    → IsPackedFor bytes (text_of (take n bytes))
packs-short bytes n all short u last =
    let e : size (text_of (take n bytes)) ≡ n = size-text_of (take n bytes) u ∙ length-take-le n bytes (omega arith) in
    record {
      text = scalars-chars (take n bytes) u;
      stands = inr (
        omega (arith, e),
        ap (λ (k : ℕ). take k bytes) e ∙ sym (encodes-chars (take n bytes) u),
        last
            ∙ omega (arith, e),
      );
    }

pub packs-full : (bytes : List ℕ) (n : ℕ) → length bytes ≡ 24 → n ≡ 24 → IsUtf8 (take n bytes)
    → IsPackedFor bytes (text_of (take n bytes))
packs-full bytes n all full u =
    let e : size (text_of (take n bytes)) ≡ n = size-text_of (take n bytes) u ∙ length-take-le n bytes (omega arith) in
    record {
      text = scalars-chars (take n bytes) u;
      stands = inl (e ∙ full, sym (encodes-chars (take n bytes) u ∙ take_all n bytes (omega arith)));
    }

-- the last byte is overwritten with the length n
pub packs-marked : (bytes : List ℕ) (n : ℕ) → length bytes ≡ 24 → n < 24 → IsUtf8 (take n bytes)
    → IsPackedFor (set bytes 23 (192 + n)) (text_of (take n bytes))
packs-marked bytes n all short u =
    let now : List ℕ = set bytes 23 (192 + n) in
    let front : take n now ≡ take n bytes = take-set-le n bytes 23 (192 + n) (omega arith) in
    let same : length now ≡ 24 = length-set bytes 23 (192 + n) ∙ all in
    subst (λ (ys : List ℕ). IsPackedFor now (text_of ys)) front
    (packs-short now n same short (subst IsUtf8 (sym front) u) (get_or-set_same bytes 23 (192 + n) 0 (omega arith)))

-- the encoded length is at most 24, and the first bytes are UTF-8
pub packs-read : (bytes : List ℕ) → length bytes ≡ 24 → packed_len bytes ≤ 24 → IsUtf8 (take (packed_len bytes) bytes)
    → IsPackedFor bytes (packed_text bytes)
packs-read bytes all most u =
    let n : ℕ = packed_len bytes in
    let last : ℕ = get_or bytes 23 0 in
    ⊎_elim
    (λ (low : last < 192). packs-full bytes n all (len-full bytes low) u)
    (λ (high : 192 ≤ last).
    let e : n ≡ last - 192 = cond-false _ _ _ (le-ltb last 192 high) in
    ⊎_elim
    (λ (short : n < 24). packs-short bytes n all short u (omega (arith, e, high)))
    (λ (long : 24 ≤ n).
    let full : n ≡ 24 = omega arith in
    let whole : take n bytes ≡ bytes = take_all n bytes (omega arith) in
    let low : last < 192 = low-last bytes 23 (subst IsUtf8 whole u) all in
    absurd (omega (arith, low, high)))
    (cases_lt n 24))
    (cases_lt last 192)

pub packs-text : (bytes : List ℕ) → IsUtf8 bytes → length bytes ≤ 24 → IsPackedFor (packed_bytes bytes) (text_of bytes)
packs-text bytes u most =
    let n : ℕ = length bytes in
    let array : List ℕ = packed_bytes bytes in
    ⊎_elim
    (λ (short : n < 24).
    let zeros : List ℕ = replicate (23 - n) 0 in
    let last : ℕ = 192 + n in
    let begun : length (bytes ++ zeros) ≡ 23 = length-append bytes zeros
    ∙ ap (λ (k : ℕ). n + k) (length-replicate (23 - n) 0) ∙ omega arith in
    let is : array ≡ (bytes ++ zeros) ++ last ∷ [] = cond-true _ _ _ (lt-ltb n 24 short) in
    let all : length array ≡ 24 = ap length is ∙ length-append (bytes ++ zeros) (last ∷ [])
    ∙ ap (λ (k : ℕ). k + 1) begun in
    let front : take n array ≡ bytes = ap (take n) (is ∙ append_assoc bytes zeros (last ∷ []))
    ∙ take_at bytes (zeros ++ last ∷ []) n refl in
    let end : get_or array 23 0 ≡ last = ap (λ (ys : List ℕ). get_or ys 23 0) is
    ∙ get_or_push (bytes ++ zeros) last 0 23 begun in
    subst (λ (ys : List ℕ). IsPackedFor array (text_of ys)) front
    (packs-short array n all short (subst IsUtf8 (sym front) u) end))
    (λ (long : 24 ≤ n).
    let full : n ≡ 24 = omega arith in
    let is : array ≡ bytes = cond-false _ _ _ (le-ltb n 24 long) in
    let front : take n bytes ≡ bytes = take_all n bytes (omega arith) in
    let stands : IsPackedFor bytes (text_of bytes) = subst (λ (ys : List ℕ). IsPackedFor bytes (text_of ys)) front
    (packs-full bytes n full full (subst IsUtf8 (sym front) u)) in
    subst (λ (ys : List ℕ). IsPackedFor ys (text_of bytes)) (sym is) stands)
    (cases_lt n 24)

-- 23 ASCII bytes and a last byte that a packed ASCII text can have
pub ascii_packed : (array : List ℕ) → length array ≡ 24 → IsAscii (take 23 array)
    → (get_or array 23 0 < 128) ⊎ (192 ≤ get_or array 23 0) → get_or array 23 0 ≤ 215
    → IsUtf8 (take (packed_len array) array)
ascii_packed array long all end most =
    ⊎_elim
    (λ (low : get_or array 23 0 < 128).
    let e : packed_len array ≡ 23 + 1 = len-full array (omega (arith, low)) in
    subst (λ (n : ℕ). IsUtf8 (take n array)) (sym e) (IsUtf8-from_ascii (take 24 array)
    (IsAscii-more array 23 (omega arith) all low)))
    (λ (high : 192 ≤ get_or array 23 0).
    let n : ℕ = packed_len array in
    let e : n ≡ get_or array 23 0 - 192 = len-high array high in
    subst IsUtf8 (take-take n 23 array (omega (arith, e, most)))
    (IsUtf8-from_ascii (take n (take 23 array)) (IsAscii-take (take 23 array) n all)))
    end
