-- Wire forms by their parts.
use Rattle.std.proofs.Common.{◌≡◌, ℕ, ◌+◌, ◌^◌, ◌<◌, ◌≤◌, List, [], ◌++◌, length, take, drop, sym, ap, subst, ◌∙◌}
use Rattle.std.proofs.Common.{arith, append_assoc, length-append, length-take-le, length-drop, IfSome, Option, None}
use Rattle.std.proofs.Common.{Some, refl, Result, Ok, Err, IfOk, IfErr}
use Rattle.std.proofs.lemmas.Nat.{from_le_bytes-to_le_bytes_4}
use Rattle.std.proofs.KnownBytes.{Appends-trans, Consumes-trans}
use Rattle.std.proofs.BufReadLemmas.{Consumes_shown}
use Rattle.std.proofs.Transfers.{starts_with_length}
use Rattle.std.proofs.Math.Seq.{take-append_seam}
use Rattle.std.proofs.lemmas.List.{take-append-le, append-nil, append_cancel_left}
use Rattle.std.proofs.lemmas.Str.{encodes_same, scalars-chars}
use Rattle.std.specs.Int.{w32, to_le_bytes, from_le_bytes}
use Rattle.std.specs.Str.{IsUtf8}
use Rattle.std.specs.Io.{StartsWith}
use Rattle.std.specs.Io.BufRead.{DropsConsumable}
use Rattle.std.specs.Io.KnownBytes.{Appends, Consumes, Keeps}
use lib.Seq.{take-add, take-take}
use Rattle.compact_text.proofs.TextFacts.{text_facts}
use Rattle.compact_str.specs.Text.{IsText, size, text_of, utf8}
use Rattle.compact_str.specs.Value.{PlacedText}
use Rattle.compact_text.proofs.Texts.{length-utf8}
use Rattle.compact_ext.specs.declared.wire.WireError.{WireError}
use Rattle.compact_ext.specs.declared.wire.WireError.TheVariants.{TooLong, UnexpectedEnd, Utf8, Io, WriteZero, Reserve}
use Rattle.compact_ext.specs.Wire.{wire, claimed_len, WritesFront, IsUnfinished, IsReadFault}
use Rattle.compact_ext.specs.Wire.{ReadFails, IsStop, StopsBelow, TextFails, IsOutsideForm, ReadsBack, FormHasOneText}

-- valid bytes decode to a text
pub made-text : (bytes t : List ℕ) → IsUtf8 bytes → t ≡ text_of bytes → IsText t
made-text bytes t is same = subst IsText (sym same) (scalars-chars bytes is)

pub ruleset read_text_facts = (text_facts, made-text)

pub IfErr-map : {A E : Type 0} (P Q : E → Type 0) (r : Result A E) → ((e : E) → P e → Q e) → IfErr r P → IfErr r Q
IfErr-map P Q (Ok a) f h = tt
IfErr-map P Q (Err e) f h = f e h

-- a prefix of the front, or the front and a prefix of the rest, is a prefix of both
pub front-first : (old new : Option (List ℕ)) (head tail : List ℕ) → WritesFront old new head
    → WritesFront old new (head ++ tail)
front-first old new head tail w = record {
  written_bytes = w.written_bytes;
  rest = w.rest ++ tail;
  split = ap (λ l. l ++ tail) w.split ∙ append_assoc w.written_bytes w.rest tail;
  left = omega (arith, length-append w.rest tail, w.left);
  bytes = w.bytes;
}

pub front-second : (old mid new : Option (List ℕ)) (head tail : List ℕ) → Appends old mid head
    → WritesFront mid new tail → WritesFront old new (head ++ tail)
front-second old mid new head tail h w = record {
  written_bytes = head ++ w.written_bytes;
  rest = w.rest;
  split = ap (λ l. head ++ l) w.split ∙ sym (append_assoc head w.written_bytes w.rest);
  left = w.left;
  bytes = Appends-trans old mid new head w.written_bytes h w.bytes;
}

pub ruleset front_facts = (front-first, front-second)

-- an error of reading some bytes is one of reading more, of which some had come
stop-more : (n len : ℕ) (new : Option (List ℕ)) (e : WireError) → n ≤ len → IsStop n new e → IsStop len new e
stop-more n len new (Reserve error) h s = omega (arith, h, s)
stop-more n len new e h s = s

pub stops-later : (old mid new : Option (List ℕ)) (front : List ℕ) (n len : ℕ) (e : WireError)
    → Consumes old mid front → StopsBelow mid new n e → length front + n ≤ len
    → StopsBelow old new len e
stops-later old mid new front n len e c s h = record {
  taken_bytes = front ++ s.taken_bytes;
  bytes = Consumes-trans old mid new front s.taken_bytes c s.bytes;
  short = omega (arith, length-append front s.taken_bytes, s.short, h);
  cause = stop-more n len new e (omega (arith, h)) s.cause;
}

-- the four bytes of a length, and what came of the text
claimed : (n : ℕ) (taken : List ℕ) → n < 2 ^ 32 → claimed_len (to_le_bytes w32 n ++ taken) ≡ n
claimed n taken fits = from_le_bytes-to_le_bytes_4 n fits

unfinished : (n : ℕ) (taken : List ℕ) → n < 2 ^ 32 → length taken < n
    → length (to_le_bytes w32 n ++ taken) < 4 + claimed_len (to_le_bytes w32 n ++ taken)
unfinished n taken fits short = omega (arith, claimed n taken fits, short)

pub read-fails : (old mid new : Option (List ℕ)) (n : ℕ) (e : WireError) → n < 2 ^ 32
    → Consumes old mid (to_le_bytes w32 n) → TextFails mid new n e → ReadFails old new e
read-fails old mid new n TooLong fits h s = absurd s.cause
read-fails old mid new n WriteZero fits h s = absurd s.cause
read-fails old mid new n UnexpectedEnd fits h s = record {
  taken_bytes = to_le_bytes w32 n ++ s.taken_bytes;
  bytes = Consumes-trans old mid new (to_le_bytes w32 n) s.taken_bytes h s.bytes;
  fault = (λ _. unfinished n s.taken_bytes fits s.short, s.cause);
}
read-fails old mid new n (Io error) fits h s = record {
  taken_bytes = to_le_bytes w32 n ++ s.taken_bytes;
  bytes = Consumes-trans old mid new (to_le_bytes w32 n) s.taken_bytes h s.bytes;
  fault = λ _. unfinished n s.taken_bytes fits s.short;
}
read-fails old mid new n (Reserve error) fits h s = record {
  taken_bytes = to_le_bytes w32 n ++ s.taken_bytes;
  bytes = Consumes-trans old mid new (to_le_bytes w32 n) s.taken_bytes h s.bytes;
  fault = (
    omega arith,
    omega (arith, claimed n s.taken_bytes fits, s.cause),
    unfinished n s.taken_bytes fits s.short,
  );
}
read-fails old mid new n Utf8 fits h s = record {
  taken_bytes = to_le_bytes w32 n ++ s.taken_bytes;
  bytes = Consumes-trans old mid new (to_le_bytes w32 n) s.taken_bytes h s.bytes;
  fault = (omega (arith, claimed n s.taken_bytes fits, s.all), s.broken);
}

pub length-wire : (t : List ℕ) → length (wire t) ≡ 4 + size t
length-wire t = omega (arith, length-utf8 t)

-- bytes that begin with a length and are long enough begin with the form
pub form-shown : (shown t : List ℕ) (n : ℕ) → to_le_bytes w32 n ≡ take 4 shown → 4 + n ≤ length shown
    → utf8 t ≡ take n (drop 4 shown) → StartsWith shown (wire t)
form-shown shown t n head within is =
    let same : size t ≡ n = sym (length-utf8 t) ∙ ap length is
    ∙ length-take-le n (drop 4 shown) (omega (arith, length-drop 4 shown, within)) in
    let whole : wire t ≡ take (4 + n) shown = ap (λ k. to_le_bytes w32 k ++ utf8 t) same ∙ ap (λ l. l ++ utf8 t) head
    ∙ ap (λ l. take 4 shown ++ l) is ∙ sym (take-add 4 n shown) in
    ap (λ k. take k shown) (length-wire t ∙ ap (λ k. 4 + k) same) ∙ sym whole

-- a form at the front has the length of the first bytes, and its text after them
pub form-whole : (shown t : List ℕ) (n : ℕ) → n < 2 ^ 32 → size t < 2 ^ 32 → StartsWith shown (wire t)
    → to_le_bytes w32 n ≡ take 4 shown → (n ≡ size t) × (utf8 t ≡ take n (drop 4 shown))
form-whole shown t n small fits begins head =
    let whole : take (4 + size t) shown ≡ wire t = ap (λ k. take k shown) (sym (length-wire t)) ∙ begins in
    let first : take 4 shown ≡ to_le_bytes w32 (size t) = sym (take-take 4 (4 + size t) shown (omega arith))
    ∙ ap (take 4) whole in
    let same : n ≡ size t = sym (from_le_bytes-to_le_bytes_4 n small) ∙ ap (from_le_bytes w32) (head ∙ first)
    ∙ from_le_bytes-to_le_bytes_4 (size t) fits in
    let parts : take 4 shown ++ take (size t) (drop 4 shown) ≡ wire t = sym (take-add 4 (size t) shown) ∙ whole in
    let rest : take (size t) (drop 4 shown) ≡ utf8 t = ap (drop 4)
    (ap (λ l. l ++ take (size t) (drop 4 shown)) (sym first) ∙ parts) in
    (same, sym rest ∙ ap (λ k. take k (drop 4 shown)) (sym same))

-- a text whose length fits four bytes has a form
pub form-fits : (n : ℕ) (t rest : List ℕ) → n < 2 ^ 32 → n ≤ length rest → utf8 t ≡ take n rest → size t < 2 ^ 32
form-fits n t rest fits within made = omega (arith, length-utf8 t, ap length made, length-take-le n rest within, fits)

-- a form that a reader shows and then consumes
pub took-shown : (old mid new : Option (List ℕ)) (limit : Option ℕ) (shown t : List ℕ) (n : ℕ) → n ≡ size t
    → StartsWith shown (wire t) → IfSome old (λ xs. StartsWith xs shown) → IfSome old (λ xs. length shown ≡ 0 → xs ≡ [])
    → Keeps old mid → IfSome old (λ _. IfSome limit (λ k. length shown ≤ k)) → DropsConsumable mid new limit (4 + n)
    → Consumes old new (wire t)
took-shown old mid new limit shown t n is begins front end kept fits drops =
    let long : length (wire t) ≡ 4 + n = omega (arith, length-wire t, is) in
    let within : 4 + n ≤ length shown = omega (arith, long, starts_with_length shown (wire t) begins) in
    subst (Consumes old new) (ap (λ k. take k shown) (sym long) ∙ begins)
    (Consumes_shown old mid new limit shown (4 + n) within front end kept fits drops).0

-- a length of more than 24 that a reader shows and then consumes alone, as allocation failed
pub head-taken : (old mid new : Option (List ℕ)) (limit : Option ℕ) (shown : List ℕ) (error : _) → 4 ≤ length shown
    → 24 < claimed_len shown → IfSome old (λ xs. StartsWith xs shown)
    → IfSome old (λ xs. length shown ≡ 0 → xs ≡ []) → Keeps old mid
    → IfSome old (λ _. IfSome limit (λ k. length shown ≤ k)) → DropsConsumable mid new limit 4
    → ReadFails old new (Reserve error)
head-taken old mid new limit shown error four long front end kept fits drops =
    let all : length (take 4 shown) ≡ 4 = length-take-le 4 shown four in
    let claim : claimed_len (take 4 shown) ≡ claimed_len shown =
    ap (from_le_bytes w32) (take-take 4 4 shown (omega arith)) in
    record {
      taken_bytes = take 4 shown;
      bytes = (Consumes_shown old mid new limit shown 4 four front end kept fits drops).0;
      fault = (omega (arith, all), omega (arith, claim, long), omega (arith, all, claim, long));
    }

-- the front of a form says its length
claimed-front : (t rest taken more : List ℕ) → size t < 2 ^ 32 → 4 ≤ length taken → wire t ++ rest ≡ taken ++ more
    → claimed_len taken ≡ size t
claimed-front t rest taken more fits four e =
    ap (from_le_bytes w32) (sym (take-append-le 4 taken more four) ∙ ap (take 4) (sym e))
    ∙ from_le_bytes-to_le_bytes_4 (size t) fits

-- the first bytes, of the length of the form, are the form
front-same : (t rest taken more : List ℕ) → length taken ≡ 4 + size t → wire t ++ rest ≡ taken ++ more → wire t ≡ taken
front-same t rest taken more len e =
    let same : length (wire t) ≡ length taken = omega (arith, length-wire t, len) in
    sym (take-append_seam (wire t) rest) ∙ ap (take (length (wire t))) e ∙ ap (λ n. take n (taken ++ more)) same
    ∙ take-append_seam taken more

pub form-has_one_text : FormHasOneText
form-has_one_text t s rest more fits small e =
    let claim : size s ≡ size t = sym (from_le_bytes-to_le_bytes_4 (size s) small)
    ∙ claimed-front t rest (wire s) more fits (omega (arith, length-wire s)) e in
    let same : wire t ≡ wire s = front-same t rest (wire s) more (omega (arith, length-wire s, claim)) e in
    (encodes_same t s (ap (drop 4) same), append_cancel_left (wire s) rest more (ap (λ l. l ++ rest) (sym same) ∙ e))

-- an error inside the form would contradict it
module _ (t rest taken more : List ℕ) (fits : size t < 2 ^ 32) (is : wire t ++ rest ≡ taken ++ more) where
  no-end : IsUnfinished taken → more ≡ [] → ⊥
  no-end cut end =
      let whole : length taken ≡ length (wire t ++ rest) = ap length
      (sym (append-nil taken) ∙ ap (λ l. taken ++ l) (sym end) ∙ sym is) in
      let long : 4 + size t ≤ length taken = omega (arith, whole, length-append (wire t) rest, length-wire t) in
      let claim = claimed-front t rest taken more fits (omega (arith, long)) is in
      omega (arith, cut (omega (arith, long)), claim, long)

  no-broken : IsText t → length taken ≡ 4 + claimed_len taken → ¬ IsUtf8 (drop 4 taken) → ⊥
  no-broken text len broken =
      let claim = claimed-front t rest taken more fits (omega (arith, len)) is in
      let same : wire t ≡ taken = front-same t rest taken more (omega (arith, len, claim)) is in
      broken (subst (λ l. IsUtf8 (drop 4 l)) same (t, (text, refl)))

pub outside-form : (t rest taken : List ℕ) (new : Option (List ℕ)) (e : WireError) → IsText t → size t < 2 ^ 32
    → Consumes (Some (wire t ++ rest)) new taken → IsReadFault taken new e
    → IsOutsideForm (size t) e
outside-form t rest taken None e text fits c f = absurd c
outside-form t rest taken (Some more) TooLong text fits c f = absurd f
outside-form t rest taken (Some more) UnexpectedEnd text fits c f = absurd (no-end t rest taken more fits c f.0 f.1)
outside-form t rest taken (Some more) Utf8 text fits c f = absurd (no-broken t rest taken more fits c text f.0 f.1)
outside-form t rest taken (Some more) (Io error) text fits c f = tt
outside-form t rest taken (Some more) WriteZero text fits c f = absurd f
outside-form t rest taken (Some more) (Reserve error) text fits c f =
    let claim = claimed-front t rest taken more fits f.0 c in
    omega (arith, claim, f.1)

pub read-text : (t rest s : List ℕ) (new : Option (List ℕ)) → size t < 2 ^ 32 → size s < 2 ^ 32
    → Consumes (Some (wire t ++ rest)) new (wire s) → (s ≡ t) × (new ≡ Some rest)
read-text t rest s None fits small c = absurd c
read-text t rest s (Some more) fits small c =
    let told = form-has_one_text t s rest more fits small c in
    (sym told.0, ap Some (sym told.1))

pub reads-back : (old new : Option (List ℕ)) (r : Result PlacedText WireError)
    → IfOk r (λ v. Consumes old new (wire v.text)) → IfOk r (λ v. size v.text < 2 ^ 32) → IfErr r (ReadFails old new)
    → ReadsBack old new r
reads-back old new (Ok v) took fits err = record {
  back = λ (t rest : List ℕ) (text : IsText t) (small : size t < 2 ^ 32) (is : old ≡ Some (wire t ++ rest)).
      read-text t rest v.text new small fits (subst (λ o. Consumes o new (wire v.text)) is took);
}
reads-back old new (Err e) took fits err = record {
  back = λ (t rest : List ℕ) (text : IsText t) (small : size t < 2 ^ 32) (is : old ≡ Some (wire t ++ rest)).
      outside-form t rest err.taken_bytes new e text small (subst (λ o. Consumes o new err.taken_bytes) is err.bytes)
      err.fault;
}
