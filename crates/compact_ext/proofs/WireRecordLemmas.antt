-- Reading all forms up to the end of a reader.
use Rattle.std.proofs.Common.{◌≡◌, ℕ, ◌+◌, ◌<◌, ◌≤◌, ◌^◌, List, [], ◌∷◌, ◌++◌, length, take, drop, map, Option, None}
use Rattle.std.proofs.Common.{Some, IfSome, Result, Ok, Err, IfOk, IfErr, refl, inl, inr, arith, sym, ap, subst, ◌∙◌}
use Rattle.std.proofs.Common.{append_assoc, append-nil, length-append}
use Rattle.std.specs.Prelude.{◌==◌, if◌then◌else◌, Bool, false}
use Rattle.std.proofs.lemmas.Bool.Decides.{nat_tests}
use Rattle.std.specs.Global.{Vec}
use Rattle.std.specs.List.{All, flat_map}
use Rattle.std.specs.Io.{StartsWith}
use Rattle.std.specs.Str.{IsUtf8}
use Rattle.std.specs.Int.{w32, to_le_bytes}
use Rattle.std.proofs.Transfers.{starts_with_length}
use Rattle.std.specs.Io.KnownBytes.{Consumes, IsAtEnd, Keeps}
use Rattle.std.proofs.lemmas.List.Elements.{All-nil, All-cons, All-append, All-head, All-tail}
use Rattle.std.proofs.lemmas.List.{map-append}
use Rattle.std.proofs.lemmas.Grind.{flat_map-append}
use Rattle.std.proofs.KnownBytes.{Consumes-nil, Consumes-trans, Keeps-refl}
use Rattle.compact_str.specs.Text.{size}
use Rattle.compact_str.specs.Value.{PlacedText}
use Rattle.compact_ext.specs.declared.wire.WireError.{WireError}
use Rattle.compact_ext.specs.declared.wire.WireError.TheVariants.{TooLong, UnexpectedEnd, Utf8, Io, WriteZero, Reserve}
use Rattle.compact_ext.specs.declared.wire.records.Records.{Records}
use Rattle.compact_ext.specs.WireRecords.HasTexts.{none, text, invalid}
use Rattle.compact_ext.specs.Wire.{wire, HasForm, ReadFails, IsOutsideForm}
use Rattle.compact_ext.proofs.WireLemmas.{form-whole, form-has_one_text, length-wire, outside-form, read-text}
use Rattle.compact_ext.specs.WireRecords.{records_left, unread_bytes, GivesRecord, GivesNext, FailsAfterTexts}
use Rattle.compact_ext.specs.WireRecords.{VecCannotGrow, BeginsWithNoForm, forms_of, AreForms, FailsAtSome}
use Rattle.compact_ext.specs.WireRecords.{ConsumesForms, ConsumesTexts, HasTexts, FailsWithin, HasBegun, HasMore}
use Rattle.compact_ext.specs.WireRecords.{IsOutsideForms, IsPlacedAsRead, FitsForm, ReadsAllBack, ReadsNextBack}
use Rattle.compact_ext.specs.WireRecords.{ConsumesForm}

-- a reader that failed before its first byte

pub failed-at_once : (old new : Option (List ℕ)) (error : _) → Keeps old new → FailsWithin old new (Io error)
failed-at_once None new error same = record {
  fails = record
      { taken_bytes = []; bytes = tt; fault = λ long. absurd (omega (arith, long)) };
  begun = tt;
}
failed-at_once (Some x) None error same = absurd same
failed-at_once (Some x) (Some y) error same = record {
  fails =
      record { taken_bytes = []; bytes = sym same; fault = λ long. absurd (omega (arith, long)) };
  begun = tt;
}

pub failed-unread : (old : Option (List ℕ)) (error : _) → FailsWithin old old (Io error)
failed-unread old error = failed-at_once old old error (Keeps-refl old)

-- an error inside a form

has-begun : (known mid new : Option (List ℕ)) (e : WireError) → HasMore known → ReadFails mid new e → HasBegun known e
has-begun known mid new TooLong more f = absurd f.fault
has-begun known mid new WriteZero more f = absurd f.fault
has-begun known mid new UnexpectedEnd more f = more
has-begun known mid new Utf8 more f = more
has-begun known mid new (Reserve error) more f = more
has-begun known mid new (Io error) more f = tt

fails-unmoved : (old mid new : Option (List ℕ)) (e : WireError) → Keeps old mid → ReadFails mid new e
    → ReadFails old new e
fails-unmoved None mid new e same f = record { taken_bytes = f.taken_bytes; bytes = tt; fault = f.fault }
fails-unmoved (Some x) None new e same f = absurd same
fails-unmoved (Some x) (Some y) new e same f = record {
  taken_bytes = f.taken_bytes;
  bytes =
      subst (λ (l : List ℕ). Consumes (Some l) new f.taken_bytes) same f.bytes;
  fault = f.fault;
}

took-unmoved : (old mid new : Option (List ℕ)) (front : List ℕ) → Keeps old mid → Consumes mid new front
    → Consumes old new front
took-unmoved None mid new front same took = tt
took-unmoved (Some x) None new front same took = absurd same
took-unmoved (Some x) (Some y) new front same took = subst (λ (l : List ℕ). Consumes (Some l) new front) same took

pub record-read : (old mid new : Option (List ℕ)) (r : Result PlacedText WireError) → Keeps old mid → HasMore old
    → IfOk r (λ v. Consumes mid new (wire v.text)) → IfOk r FitsForm → IfOk r IsPlacedAsRead
    → IfErr r (λ e. ReadFails mid new e) → GivesNext old (Some r) new
record-read old mid new (Ok v) same more ok fits placed err =
    record { form = took-unmoved old mid new (wire v.text) same ok; fits = fits; placed = placed }
record-read old mid new (Err e) same more ok fits placed err =
    record { fails = fails-unmoved old mid new e same err; begun = has-begun old mid new e more err }

-- if a reader shows bytes, some are left
pub more-shown : (known : Option (List ℕ)) (shown : List ℕ) → IfSome known (λ xs. StartsWith xs shown)
    → ¬ (length shown ≡ 0) → HasMore known
more-shown None shown starts some = tt
more-shown (Some []) [] starts some = absurd (some refl)
more-shown (Some []) (x ∷ shown) starts some = absurd (omega (arith, ap length starts))
more-shown (Some (y ∷ ys)) shown starts some = omega arith

-- an iterator that may continue returns what its reader does

going-on : {A : Type 0} (n : ℕ) (x : Option A) → 0 < n → (if n == 0 then None else x) ≡ x
going-on n x more =
    let other : (n == 0) ≡ false = grind (arith, nat_tests) in
    ap (λ (b : Bool). if b then None else x) other

left-known : {R : Type 0} (remaining : R → Option (List ℕ)) (s : Records R) → 0 < s.calls_left
    → records_left remaining s ≡ remaining s.reader
left-known remaining s more = going-on s.calls_left (remaining s.reader) more

after-known : {R : Type 0} (remaining : R → Option (List ℕ)) (r : Option (Result PlacedText WireError))
    (t : Records R) → 0 < t.calls_left → unread_bytes remaining r t ≡ remaining t.reader
after-known remaining (Some (Err (Io error))) t more = refl
after-known remaining r t more = left-known remaining t more

pub gives-record : {R : Type 0} (remaining : R → Option (List ℕ)) (s t : Records R)
    (r : Option (Result PlacedText WireError)) → 0 < s.calls_left → 0 < t.calls_left
    → GivesNext (remaining s.reader) r (remaining t.reader) → GivesRecord remaining s r t
gives-record remaining s t r before after gives =
    subst (λ (old : Option (List ℕ)). GivesNext old r (unread_bytes remaining r t))
    (sym (left-known remaining s before))
    (subst (λ (new : Option (List ℕ)). GivesNext (remaining s.reader) r new) (sym (after-known remaining r t after))
    gives)

pub ruleset record_facts = (failed-at_once, failed-unread, more-shown, gives-record)

-- no whole form is at the front

pub cut-shows_none : (shown : List ℕ) (n : ℕ) → n < 2 ^ 32 → to_le_bytes w32 n ≡ take 4 shown → length shown < 4 + n
    → BeginsWithNoForm shown
cut-shows_none shown n small head cut = λ (t : List ℕ) (form : HasForm t) (begins : StartsWith shown (wire t)).
    absurd (omega (
      arith,
      (form-whole shown t n small form.1 begins head).0,
      length-wire t,
      starts_with_length shown (wire t) begins,
      cut,
    ))

pub broken-shows_none : (shown : List ℕ) (n : ℕ) → n < 2 ^ 32 → to_le_bytes w32 n ≡ take 4 shown
    → ¬ IsUtf8 (take n (drop 4 shown)) → BeginsWithNoForm shown
broken-shows_none shown n small head broken = λ (t : List ℕ) (form : HasForm t) (begins : StartsWith shown (wire t)).
    broken (subst IsUtf8 (form-whole shown t n small form.1 begins head).1 (t, (form.0, refl)))

-- texts consumed one after another

pub takes-none : (known : Option (List ℕ)) → ConsumesForms known known []
takes-none known = record { forms = Consumes-nil known; fit = All-nil FitsForm; placed = All-nil IsPlacedAsRead }

forms-last : (texts : List PlacedText) (v : PlacedText) → forms_of texts ++ wire v.text ≡ forms_of (texts ++ v ∷ [])
forms-last texts v = ap (λ l. forms_of texts ++ l) (sym (append-nil (wire v.text)))
    ∙ sym (flat_map-append (λ (w : PlacedText). wire w.text) texts (v ∷ []))

pub takes-more : (old mid new : Option (List ℕ)) (texts : List PlacedText) (v : PlacedText)
    → ConsumesForms old mid texts → ConsumesForm mid new v → ConsumesForms old new (texts ++ v ∷ [])
takes-more old mid new texts v took last = record {
  forms = subst (Consumes old new) (forms-last texts v) (Consumes-trans old mid new (forms_of texts) (wire v.text)
      took.forms last.form);
  fit = All-append FitsForm texts (v ∷ []) took.fit (All-cons FitsForm v [] last.fits (All-nil FitsForm));
  placed = All-append IsPlacedAsRead texts (v ∷ []) took.placed
      (All-cons IsPlacedAsRead v [] last.placed (All-nil IsPlacedAsRead));
}

-- what is consumed up to the end is all
pub takes-all : (old new : Option (List ℕ)) (texts : List PlacedText) → ConsumesForms old new texts → IsAtEnd new
    → AreForms old texts
takes-all None new texts took end = tt
takes-all (Some xs) None texts took end = absurd took.forms
takes-all (Some xs) (Some ys) texts took end = took.forms ∙ ap (λ l. forms_of texts ++ l) end
    ∙ append-nil (forms_of texts)

-- The texts of forms are those that were written.

-- texts whose forms begin those of others are the first of these
same-texts : (texts : List (List ℕ)) (found : List PlacedText) (more : List ℕ) → All HasForm texts
    → All FitsForm found → flat_map wire texts ≡ forms_of found ++ more
    → (rest : List (List ℕ)) × (texts ≡ map (λ v. v.text) found ++ rest) × (more ≡ flat_map wire rest)
    × All HasForm rest
same-texts texts [] more forms fits is = (texts, refl, sym is, forms)
same-texts [] (v ∷ found) more forms fits is = absurd (omega (
  arith,
  ap length is,
  length-append (wire v.text) (forms_of found),
  length-append (wire v.text ++ forms_of found) more,
  length-wire v.text,
))
same-texts (t ∷ texts) (v ∷ found) more forms fits is =
    let (first, others) = form-has_one_text t v.text (flat_map wire texts) (forms_of found ++ more)
    (All-head HasForm t texts forms).1 (All-head FitsForm v found fits).1
    (is ∙ append_assoc (wire v.text) (forms_of found) more) in
    let (rest, all, left, last) = same-texts texts found more (All-tail HasForm t texts forms) (All-tail FitsForm v found fits) others in
    (rest, ap (λ l. l ∷ texts) first ∙ ap (λ l. v.text ∷ l) all, left, last)

-- no bytes are the forms of no texts
no-forms : (rest : List (List ℕ)) → [] ≡ flat_map wire rest → rest ≡ []
no-forms [] is = refl
no-forms (t ∷ rest) is = absurd (omega (
  arith,
  ap length is,
  length-append (wire t) (flat_map wire rest),
  length-wire t,
))

-- an error outside one form is outside all
outside-forms : (n : ℕ) (texts : List (List ℕ)) (e : WireError) → 0 < length texts → IsOutsideForm n e
    → IsOutsideForms texts e
outside-forms n texts TooLong some h = absurd h
outside-forms n texts UnexpectedEnd some h = absurd h
outside-forms n texts Utf8 some h = absurd h
outside-forms n texts (Io error) some h = tt
outside-forms n texts WriteZero some h = absurd h
outside-forms n texts (Reserve error) some h = some

-- nothing fails after the last form
none-fails : (texts : List (List ℕ)) (new : Option (List ℕ)) (e : WireError) → FailsWithin (Some []) new e
    → IsOutsideForms texts e
none-fails texts None e f = absurd f.fails.bytes
none-fails texts (Some more) TooLong f = absurd f.fails.fault
none-fails texts (Some more) UnexpectedEnd f = absurd (omega (arith, f.begun))
none-fails texts (Some more) Utf8 f = absurd (omega (
  arith,
  f.fails.fault.0,
  ap length f.fails.bytes,
  length-append f.fails.taken_bytes more,
))
none-fails texts (Some more) (Io error) f = tt
none-fails texts (Some more) WriteZero f = absurd f.fails.fault
none-fails texts (Some more) (Reserve error) f = absurd (omega
    (arith, f.fails.fault.0, ap length f.fails.bytes, length-append f.fails.taken_bytes more))

one-fails : (texts rest : List (List ℕ)) (left : List ℕ) (new : Option (List ℕ)) (e : WireError)
    → length rest ≤ length texts → All HasForm rest → left ≡ flat_map wire rest
    → FailsWithin (Some left) new e → IsOutsideForms texts e
one-fails texts [] left new e fewer forms is f = none-fails texts new e (subst (λ l. FailsWithin (Some l) new e) is f)
one-fails texts (t ∷ rest) left new e fewer forms is f =
    let form = All-head HasForm t rest forms in
    let taken = subst (λ l. Consumes (Some l) new f.fails.taken_bytes) is f.fails.bytes in
    outside-forms (size t) texts e (omega (arith, fewer)) (outside-form t (flat_map wire rest) f.fails.taken_bytes new
    e form.0 form.1 taken f.fails.fault)

-- no more texts are consumed than there are
fewer-left : (texts rest : List (List ℕ)) (found : List PlacedText) → texts ≡ map (λ v. v.text) found ++ rest
    → length rest ≤ length texts
fewer-left texts rest found all = omega (
  arith,
  ap length all,
  length-append (map (λ (v : PlacedText). v.text) found) rest,
)

later-fails : (texts : List (List ℕ)) (e : WireError) → All HasForm texts
    → FailsAfterTexts (Some (flat_map wire texts)) e → IsOutsideForms texts e
later-fails texts e forms f = left-fails f.mid f.took.forms f.fails
  where
    left-fails : (mid : Option (List ℕ)) → Consumes (Some (flat_map wire texts)) mid (forms_of f.texts)
        → FailsWithin mid f.new e → IsOutsideForms texts e
    left-fails None took fails = absurd took
    left-fails (Some left) took fails =
        let (rest, all, is, last) = same-texts texts f.texts left forms f.took.fit took in
        one-fails texts rest left f.new e (fewer-left texts rest f.texts all) last is fails

-- a form was consumed, so there is one
some-taken : (texts : List (List ℕ)) (mid : Option (List ℕ)) (found : List PlacedText) (v : PlacedText)
    → All HasForm texts → ConsumesForms (Some (flat_map wire texts)) mid (found ++ v ∷ [])
    → 0 < length texts
some-taken [] None found v forms took = absurd took.forms
some-taken [] (Some left) found v forms took =
    let long = length-append (forms_of (found ++ v ∷ [])) left in
    let front : length (forms_of (found ++ v ∷ [])) ≡ length (forms_of found) + length (wire v.text) =
    ap length (sym (forms-last found v)) ∙ length-append (forms_of found) (wire v.text) in
    absurd (omega (arith, ap length took.forms, long, front, length-wire v.text))
some-taken (t ∷ texts) mid found v forms took = omega arith

room-fails : (texts : List (List ℕ)) (e : WireError) → All HasForm texts
    → VecCannotGrow (Some (flat_map wire texts)) e → IsOutsideForms texts e
room-fails texts e forms f = subst (IsOutsideForms texts) (sym f.refused)
    (some-taken texts f.mid f.texts f.last forms f.took)

pub records-back : (known : Option (List ℕ)) (r : Result (Vec PlacedText) WireError)
    → IfOk r (λ all. AreForms known all.items) → IfOk r (λ all. All FitsForm all.items)
    → IfErr r (FailsAtSome known) → ReadsAllBack known r
records-back known (Ok all) took fits err = record {
  back = λ (texts : List (List ℕ)) (forms : All HasForm texts) (is : known ≡ Some (flat_map wire texts)).
      let whole = subst (λ o. IfSome o (λ bytes. bytes ≡ forms_of all.items)) is took in
      let (rest, same, left, last) = same-texts texts all.items [] forms fits (whole ∙ sym (append-nil (forms_of all.items))) in
      sym (same ∙ ap (λ l. map (λ v. v.text) all.items ++ l) (no-forms rest left)
      ∙ append-nil (map (λ v. v.text) all.items));
}
records-back known (Err e) took fits err = record {
  back = λ (texts : List (List ℕ)) (forms : All HasForm texts) (is : known ≡ Some (flat_map wire texts)).
      elim (subst (λ o. FailsAtSome o e) is err) [
        | inl g ↦ later-fails texts e forms g
        | inr g ↦ room-fails texts e forms g
      ];
}

-- the next text is that of the first form
pub next-back : {R : Type 0} (remaining : R → Option (List ℕ)) (s t : Records R)
    (r : Option (Result PlacedText WireError)) → GivesRecord remaining s r t → ReadsNextBack remaining s r t
next-back remaining s t None gives = λ (text rest : List ℕ) (form : HasForm text)
    (is : records_left remaining s ≡ Some (wire text ++ rest)).
    absurd (omega (arith, ap length (subst IsAtEnd is gives.end), length-append (wire text) rest, length-wire text))
next-back remaining s t (Some (Ok v)) gives = λ (text rest : List ℕ) (form : HasForm text)
    (is : records_left remaining s ≡ Some (wire text ++ rest)).
    read-text text rest v.text _ form.1 gives.fits.1 (subst (λ o. Consumes o (records_left remaining t) (wire v.text))
    is gives.form)
next-back remaining s t (Some (Err e)) gives = λ (text rest : List ℕ) (form : HasForm text)
    (is : records_left remaining s ≡ Some (wire text ++ rest)).
    let fails = gives.fails in
    outside-form text rest fails.taken_bytes _ e form.0 form.1
    (subst (λ o. Consumes o (unread_bytes remaining (Some (Err e)) t) fails.taken_bytes) is fails.bytes) fails.fault

-- texts consumed one after another, with invalid forms between them

pub passes-none : (old new : Option (List ℕ)) (texts : List PlacedText) → new ≡ old → texts ≡ []
    → ConsumesTexts old new texts
passes-none old new texts same empty = record {
  taken_bytes = [];
  bytes = subst (λ (known : Option (List ℕ)). Consumes old known []) (sym same) (Consumes-nil old);
  has = subst (λ (l : List PlacedText). HasTexts [] (map (λ (v : PlacedText). v.text) l)) (sym empty) none;
}

pub passes-text : (old mid new : Option (List ℕ)) (texts : List PlacedText) (v : PlacedText)
    → ConsumesTexts old mid texts → ConsumesForm mid new v → ConsumesTexts old new (texts ++ v ∷ [])
passes-text old mid new texts v passed last = record {
  taken_bytes = passed.taken_bytes ++ wire v.text;
  bytes = Consumes-trans old mid new passed.taken_bytes (wire v.text) passed.bytes last.form;
  has = subst (HasTexts (passed.taken_bytes ++ wire v.text))
      (sym (map-append (λ (w : PlacedText). w.text) texts (v ∷ []))) (text v.text last.fits passed.has);
}

pub passes-invalid : (old mid new : Option (List ℕ)) (texts : List PlacedText) → ConsumesTexts old mid texts
    → FailsWithin mid new Utf8 → ConsumesTexts old new texts
passes-invalid old mid new texts passed fault = record {
  taken_bytes = passed.taken_bytes ++ fault.fails.taken_bytes;
  bytes = Consumes-trans old mid new passed.taken_bytes fault.fails.taken_bytes passed.bytes fault.fails.bytes;
  has = invalid fault.fails.taken_bytes fault.fails.fault passed.has;
}

-- what is consumed up to the end is all
pub passes-all : (old new : Option (List ℕ)) (texts : List PlacedText) → ConsumesTexts old new texts → IsAtEnd new
    → IfSome old (λ bytes. HasTexts bytes (map (λ v. v.text) texts))
passes-all None new texts passed end = tt
passes-all (Some xs) None texts passed end = absurd passed.bytes
passes-all (Some xs) (Some ys) texts passed end =
    let all : xs ≡ passed.taken_bytes = passed.bytes ∙ ap (λ (l : List ℕ). passed.taken_bytes ++ l) end
    ∙ append-nil passed.taken_bytes in
    subst (λ (l : List ℕ). HasTexts l (map (λ (v : PlacedText). v.text) texts)) (sym all) passed.has
