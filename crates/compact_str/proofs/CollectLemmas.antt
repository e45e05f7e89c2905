-- Appending in turn, collecting and joining.
use Rattle.std.proofs.Common.{◌≡◌, ℕ, ◌+◌, ◌<◌, ◌≤◌, List, [], ◌∷◌, ◌++◌, length, drop, fold, Some, map, flat_map, refl}
use Rattle.std.proofs.Common.{ap, sym, subst, ◌∙◌, arith, append_assoc, append-nil, true}
use Rattle.std.proofs.lemmas.Grind.{flat_map-append}
use Rattle.std.proofs.lemmas.List.Folds.{flat_map-map}
use Rattle.std.proofs.Math.Seq.{drop-append_seam, drop-nil}
use Rattle.std.proofs.lemmas.Str.{chars-nil, encodes-append}
use Rattle.std.specs.Prelude.{Option, None, Result, Ok, Err, IfOk, OnOk, OnErr, IsOk}
use Rattle.std.specs.Result.{MatchResult}
use Rattle.std.specs.Iterator.{Yields, Drains, DrainsIf, HoldsAlong}
use Rattle.std.specs.Borrow.{Bor}
use Rattle.std.specs.Iterator.Runs.{WholeRun}
use Rattle.std.proofs.iter.runs.Made.{run, to_end}
use Rattle.compact_repr.specs.Text.{size, text_of, utf8}
use Rattle.compact_repr.specs.Cut.{IsBoundary, text_before}
use Rattle.compact_text.proofs.CutLemmas.{text_before-append}
use Rattle.compact_repr.specs.Value.{PlacedText}
use Rattle.compact_repr.specs.Capacity.{Growth, PlacedFor, room_to_append}
use Rattle.compact_repr.specs.Calls.{push_str}
use Rattle.compact_str.specs.Room.{HasRoomFor, infallible_capacity, IsPlacedBySize}
use Rattle.compact_str.specs.Collect.{Appends, AppendsAll, AppendsUpToRefused, PassesInline, RunPassesInline}
use Rattle.compact_str.specs.Collect.{RunGivesText, StopsWithout, Extends, Collects, run_of, char_text, join}
use Rattle.compact_text.proofs.Texts.{size-append}
use Rattle.compact_repr.proofs.PlacementLemmas.{push_str-text, edited-from_parts}
use Rattle.compact_str.proofs.RoomLemmas.{push_str-infallible}

pub pushed-from_parts : (g : Growth) (v w : PlacedText) (s : List ℕ) → w.text ≡ v.text ++ s
    → PlacedFor g v w (room_to_append (size s)) → push_str g v s ≡ Some w
pushed-from_parts g v w s text place = edited-from_parts g v w (room_to_append (size s)) (v.text ++ s) text place

-- one more item
pub Appends-next : {T : Type 0} (g : Growth) (f : T → List ℕ) (v : PlacedText) (xs : List T) (u w : PlacedText)
    (x : T) → Appends g f v xs u → push_str g u (f x) ≡ Some w → Appends g f v (xs ++ x ∷ []) w
Appends-next g f v [] u w x a p = (w, subst (λ (y : PlacedText). push_str g y (f x) ≡ Some w) a p, refl)
Appends-next g f v (y ∷ ys) u w x a p = (a.0, a.1, Appends-next g f a.0 ys u w x a.2 p)

pub Appends-text : {T : Type 0} (g : Growth) (f : T → List ℕ) (v w : PlacedText) (xs : List T) → Appends g f v xs w
    → w.text ≡ v.text ++ flat_map f xs
Appends-text g f v w [] a = ap (λ (x : PlacedText). x.text) a ∙ sym (append-nil v.text)
Appends-text g f v w (x ∷ xs) a =
    Appends-text g f a.0 w xs a.2 ∙ ap (λ l. l ++ flat_map f xs) (push_str-text g v a.0 (f x) a.1)
    ∙ append_assoc v.text (f x) (flat_map f xs)

pub Appends-infallible : {T : Type 0} (g : Growth) (f : T → List ℕ) (v w : PlacedText) (xs : List T)
    → Appends g f v xs w → infallible_capacity v ≤ infallible_capacity w
Appends-infallible g f v w [] a = subst (λ (x : PlacedText). infallible_capacity v ≤ infallible_capacity x) (sym a)
    (omega (arith))
Appends-infallible g f v w (x ∷ xs) a = omega (
  arith,
  push_str-infallible g v a.0 (f x) a.1,
  Appends-infallible g f a.0 w xs a.2,
)

pub size-next : {T : Type 0} (f : T → List ℕ) (xs : List T) (x : T)
    → size (flat_map f (xs ++ x ∷ [])) ≡ size (flat_map f xs) + size (f x)
size-next f xs x =
    ap size (flat_map-append f xs (x ∷ [])) ∙ ap (λ l. size (flat_map f xs ++ l)) (append-nil (f x))
    ∙ size-append (flat_map f xs) (f x)

-- an append uses up no more than its own room
pub room-left : {T : Type 0} (g : Growth) (f : T → List ℕ) (v u : PlacedText) (xs : List T) (x : T)
    → Appends g f v xs u → HasRoomFor v (size (flat_map f (xs ++ x ∷ []))) → HasRoomFor u (size (f x))
room-left g f v u xs x a h =
    omega (
      arith,
      h,
      size-next f xs x,
      ap size (Appends-text g f v u xs a),
      size-append v.text (flat_map f xs),
      Appends-infallible g f v u xs a,
    )

-- one more item, and those after it
pub yields-through : {S T : Type 0} (steps : S → Option T → S → Type 0) (s t j u : S) (xs : List T) (x : T)
    (ys : List T) → Yields steps s xs t → steps t (Some x) j → Yields steps j ys u → Yields steps s (xs ++ x ∷ ys) u
yields-through steps s t j u [] x ys came next more =
    (j, subst (λ q. steps q (Some x) j) (sym came) next, more)
yields-through steps s t j u (z ∷ zs) x ys came next more =
    (came.0, came.1, yields-through steps came.0 t j u zs x ys came.2 next more)

pub yields-next : {S T : Type 0} (steps : S → Option T → S → Type 0) (s t u : S) (xs : List T) (x : T)
    → Yields steps s xs t → steps t (Some x) u → Yields steps s (xs ++ x ∷ []) u
yields-next steps s t u xs x came next = yields-through steps s t u u xs x [] came next refl

-- a text is its characters, one by one
pub each-alone : (cs : List ℕ) → flat_map char_text cs ≡ cs
each-alone [] = refl
each-alone (c ∷ cs) = ap (λ l. c ∷ l) (each-alone cs)

-- a run to its end
pub whole-run : {S T : Type 0} (steps : S → Option T → S → Type 0) (s : S) (xs : List T) (P : List T → Type 0)
    → Drains steps s xs → P xs → WholeRun steps s (λ p. P p.items)
whole-run steps s xs P all holds = (run steps s xs true (to_end steps s xs all), refl, refl, holds)

-- the clauses of an extension with the result r, where `read` concatenates the items
module _ {U S T E : Type 0} (becomes : U → S → Type 0) (steps : S → Option T → S → Type 0) (g : Growth)
    (f : T → List ℕ) (iter : U) (v w : PlacedText) where
  abbrev pub Extended : Result (Unit {0}) E → Type 0
  Extended r = OnOk r (AppendsAll (run_of becomes steps iter) g f v w)

  abbrev pub Stopped : Result (Unit {0}) E → Type 0
  Stopped r = OnErr r (AppendsUpToRefused (run_of becomes steps iter) g f v w)

  -- the items are appended
  extended-ran : (read : List T → List ℕ) → ((xs : List T) → flat_map f xs ≡ read xs) → (r : Result (Unit {0}) E)
      → Extended r
      → OnOk r ((it : S) × becomes iter it × WholeRun steps it (λ p. w.text ≡ v.text ++ read p.items))
  extended-ran read same (Ok _) (it, b, (xs, d, a)) = (
    it,
    b,
    whole-run steps it xs (λ ys. w.text ≡ v.text ++ read ys) d
        (Appends-text g f v w xs a ∙ ap (λ l. v.text ++ l) (same xs)),
  )
  extended-ran read same (Err _) e = tt

  -- the capacity never shrinks
  extended-room : (r : Result (Unit {0}) E) → Extended r → Stopped r → infallible_capacity v ≤ infallible_capacity w
  extended-room (Ok _) (it, b, (xs, d, a)) e = Appends-infallible g f v w xs a
  extended-room (Err _) e (it, b, s) = Appends-infallible g f v w s.0 s.4

  -- the old text is a prefix
  extended-boundary : (r : Result (Unit {0}) E) → Extended r → Stopped r → IsBoundary w.text (size v.text)
  extended-boundary (Ok _) (it, b, (xs, d, a)) e = (
    v.text,
    flat_map f xs,
    record { parts = Appends-text g f v w xs a; position = refl },
  )
  extended-boundary (Err _) e (it, b, s) = (
    v.text,
    flat_map f s.0,
    record { parts = Appends-text g f v w s.0 s.4; position = refl },
  )

  extended-front : (r : Result (Unit {0}) E) → Extended r → Stopped r → text_before w.text (size v.text) ≡ v.text
  extended-front (Ok _) (it, b, (xs, d, a)) e = ap (λ t. text_before t (size v.text)) (Appends-text g f v w xs a)
      ∙ text_before-append v.text (flat_map f xs) (size v.text) refl
  extended-front (Err _) e (it, b, s) = ap (λ t. text_before t (size v.text)) (Appends-text g f v w s.0 s.4)
      ∙ text_before-append v.text (flat_map f s.0) (size v.text) refl

  pub extended : (read : List T → List ℕ) → ((xs : List T) → flat_map f xs ≡ read xs) → (r : Result (Unit {0}) E)
      → Extended r
      → (((it : S) → becomes iter it → HoldsAlong steps it (λ xs. HasRoomFor v (size (flat_map f xs)))) → IsOk r)
      → Stopped r
      → Extends (run_of becomes steps iter) g f read v r w
  extended read same r done sure stopped = record {
    text = extended-ran read same r done;
    pushes = done;
    boundary = extended-boundary r done stopped;
    front = extended-front r done stopped;
    room = extended-room r done stopped;
    succeeds = λ fits. sure (λ it b xs t y. subst (λ l. HasRoomFor v (size l)) (sym (same xs)) (fits it b xs t y));
    err = stopped;
  }

  -- the same for the trait `Extend`
  pub extended-for_trait : (r : Result (Unit {0}) E) → Extended r → Stopped r
      → (it : S) × (xs : List T) × becomes iter it × Appends g f v xs w
      × MatchResult r (λ _. Drains steps it xs) (λ _. (t : S) × Yields steps it xs t)
  extended-for_trait (Ok _) (it, b, (xs, d, a)) e = (it, xs, b, a, d)
  extended-for_trait (Err _) e (it, b, s) = (it, s.0, b, s.4, (s.3.0, s.3.1))

-- the length of the items together
pub size-each : {T : Type 0} (f : T → List ℕ) (xs : List T) (n : ℕ)
    → fold (λ (m : ℕ) x. m + size (f x)) n xs ≡ n + size (flat_map f xs)
size-each f [] n = omega (arith)
size-each f (x ∷ xs) n = size-each f xs (n + size (f x)) ∙ omega (arith, size-append (f x) (flat_map f xs))

-- the clauses of a collection with the result r
module _ {U S T E : Type 0} (becomes : U → S → Type 0) (steps : S → Option T → S → Type 0) (f : T → List ℕ) (iter : U)
    (read : List T → List ℕ) (same : (xs : List T) → flat_map f xs ≡ read xs) where
  abbrev pub Collected : Result PlacedText E → Type 0
  Collected r = IfOk r (λ v. (it : S) × (xs : List T) × becomes iter it × Drains steps it xs × (v.text ≡ flat_map f xs))

  abbrev pub Overflowed : (List T → List ℕ) → Result PlacedText E → Type 0
  Overflowed read r = OnErr r (RunPassesInline (run_of becomes steps iter) read)

  read-all : (r : Result PlacedText E) → Collected r → IfOk r
      (λ v. (it : S) × (xs : List T) × becomes iter it × Drains steps it xs × (v.text ≡ read xs))
  read-all (Ok v) (it, xs, b, d, e) = (it, xs, b, d, e ∙ same xs)
  read-all (Err _) e = tt

  collected-ran : (r : Result PlacedText E) → Collected r → IfOk r
      (λ v. (it : S) × becomes iter it × WholeRun steps it (λ p. v.text ≡ read p.items))
  collected-ran (Ok v) (it, xs, b, d, e) = (it, b, whole-run steps it xs (λ ys. v.text ≡ read ys) d (e ∙ same xs))
  collected-ran (Err _) e = tt

  pub collected-size : (r : Result PlacedText E) → Collected r
      → IfOk r (λ v. (it : S) × becomes iter it × WholeRun steps it
      (λ p. size v.text ≡ fold (λ (n : ℕ) x. n + size (f x)) 0 p.items))
  collected-size (Ok v) (it, xs, b, d, e) = (
    it,
    b,
    whole-run steps it xs (λ ys. size v.text ≡ fold (λ (n : ℕ) y. n + size (f y)) 0 ys) d
        (ap size e ∙ omega (arith, size-each f xs 0)),
  )
  collected-size (Err _) e = tt

  collected-err : (r : Result PlacedText E) → Overflowed (flat_map f) r → Overflowed read r
  collected-err (Ok v) e = tt
  collected-err (Err _) (it, b, o) = (it, b, (o.0, o.1, o.2, subst (λ l. 24 < size l) (same o.0) o.3))

  -- never fails up to 24 bytes
  collected-succeeds : (r : Result PlacedText E) → Overflowed read r
      → ((it : S) → becomes iter it → HoldsAlong steps it (λ xs. size (read xs) ≤ 24)) → IsOk r
  collected-succeeds (Ok v) e h = refl
  collected-succeeds (Err _) (it, b, o) h = absurd (omega (arith, h it b o.0 o.1 o.2, o.3))

  pub collected : (r : Result PlacedText E) → Collected r → IfOk r IsPlacedBySize → Overflowed (flat_map f) r
      → Collects (run_of becomes steps iter) read r
  collected r all fitted stopped = record {
    text = collected-ran r all;
    drained = read-all r all;
    place = fitted;
    succeeds = collected-succeeds r (collected-err r stopped);
    allocates = collected-err r stopped;
  }

-- the same for the trait `FromIterator`: G holds of the value and the items, and F
pub collected-for_trait : {S T V E : Type 0} (from : S → Type 0) (steps : S → Option T → S → Type 0)
    (W F : V → Type 0) (G : List T → V → Type 0) (r : Result V E)
    → IfOk r (λ v. (it : S) × (xs : List T) × from it × Drains steps it xs × G xs v) → IfOk r F
    → IfOk r (λ v. (it : S) × (xs : List T) × from it × DrainsIf steps (W v) it xs × (G xs v × F v))
collected-for_trait from steps W F G (Ok v) (it, xs, b, d, g) f = (it, xs, b, (d.1.0, d.1.1, λ w. (d.0, d.1.2)), (g, f))
collected-for_trait from steps W F G (Err _) c f = tt

-- one more item passes 24 bytes
pub passes : {S T : Type 0} (steps : S → Option T → S → Type 0) (read : List T → List ℕ) (s t u : S) (xs : List T)
    (x : T) → Yields steps s xs t → steps t (Some x) u → 24 < size (read (xs ++ x ∷ [])) → PassesInline steps read s
passes steps read s t u xs x came next h = (xs ++ x ∷ [], u, yields-next steps s t u xs x came next, h)

-- texts joined by no separator are concatenated
module _ {U S T E : Type 0} (becomes : U → S → Type 0) (steps : S → Option T → S → Type 0) (f : T → List ℕ) (iter : U)
    (it : S) (starts : becomes iter it) where
  pub concatenated-ok : (r : Result PlacedText E)
      → IfOk r (λ v. (xs : List T) × Drains steps it xs × (v.text ≡ join (text_of []) f xs))
      → IfOk r (λ v. (it : S) × (xs : List T) × becomes iter it × Drains steps it xs × (v.text ≡ flat_map f xs))
  concatenated-ok (Ok v) (xs, d, e) = (it, xs, starts, d, subst (λ s. v.text ≡ join s f xs) chars-nil e)
  concatenated-ok (Err _) h = tt

  pub concatenated-err : (r : Result PlacedText E) → OnErr r (PassesInline steps (join (text_of []) f) it)
      → OnErr r (RunPassesInline (run_of becomes steps iter) (flat_map f))
  concatenated-err (Ok v) h = tt
  concatenated-err (Err _) o =
      (it, starts, (o.0, o.1, o.2, subst (λ s. 24 < size (join s f o.0)) chars-nil o.3))

-- references to characters
pub each-referred : (cs : List (Bor ℕ)) → flat_map (λ (c : Bor ℕ). char_text c.now) cs ≡ map (λ (c : Bor ℕ). c.now) cs
each-referred [] = refl
each-referred (c ∷ cs) = ap (λ l. c.now ∷ l) (each-referred cs)

pub on_err : {T E Q : Type 0} (r : Result T E) → Q → OnErr r Q
on_err (Ok _) q = tt
on_err (Err _) q = q

-- collecting from an iterator
pub ran-here : {S T E : Type 0} (steps : S → Option T → S → Type 0) (s : S) (read : List T → List ℕ)
    (r : Result PlacedText E)
    → IfOk r (λ v. (it : S) × (it ≡ s) × WholeRun steps it (λ p. v.text ≡ read p.items))
    → IfOk r (λ v. WholeRun steps s (λ p. v.text ≡ read p.items))
ran-here steps s read (Ok v) (it, e, w) = subst (λ t. WholeRun steps t (λ p. v.text ≡ read p.items)) e w
ran-here steps s read (Err _) h = tt

-- joining from one
module _ {S T E : Type 0} (steps : S → Option T → S → Type 0) (s : S) (read : List T → List ℕ) where
  pub joined-ran : (r : Result PlacedText E) → IfOk r (λ v. (xs : List T) × Drains steps s xs × (v.text ≡ read xs))
      → IfOk r (λ v. WholeRun steps s (λ p. v.text ≡ read p.items))
  joined-ran (Ok v) (xs, d, e) = whole-run steps s xs (λ ys. v.text ≡ read ys) d e
  joined-ran (Err _) h = tt

  pub joined-succeeds : (r : Result PlacedText E) → OnErr r (PassesInline steps read s)
      → HoldsAlong steps s (λ xs. size (read xs) ≤ 24) → IsOk r
  joined-succeeds (Ok v) e h = refl
  joined-succeeds (Err _) o h = absurd (omega (arith, h o.0 o.1 o.2, o.3))

-- a separator precedes each item but the first
pub join-cons : {T : Type 0} (f : T → List ℕ) (separator : List ℕ) (x : T) (xs : List T)
    → join separator f (x ∷ xs) ≡ f x ++ flat_map (λ y. separator ++ f y) xs
join-cons f separator x xs =
    ap (λ l. drop (length separator) l) (append_assoc separator (f x) (flat_map (λ y. separator ++ f y) xs))
    ∙ drop-append_seam separator (f x ++ flat_map (λ y. separator ++ f y) xs)

pub join-one : {T : Type 0} (f : T → List ℕ) (separator : List ℕ) (x : T) → join separator f (x ∷ []) ≡ f x
join-one f separator x = join-cons f separator x [] ∙ append-nil (f x)

-- the bytes of texts concatenated and joined

pub utf8-flat_map : {T : Type 0} (f : T → List ℕ) (xs : List T) → utf8 (flat_map f xs) ≡ flat_map (λ x. utf8 (f x)) xs
utf8-flat_map f [] = refl
utf8-flat_map f (x ∷ xs) = encodes-append (f x) (flat_map f xs) ∙ ap (λ bytes. utf8 (f x) ++ bytes) (utf8-flat_map f xs)

pub utf8-join : {T : Type 0} (f : T → List ℕ) (separator : List ℕ) (xs : List T)
    → utf8 (join separator f xs) ≡ join (utf8 separator) (λ x. utf8 (f x)) xs
utf8-join f separator [] = ap utf8 (drop-nil (length separator)) ∙ sym (drop-nil (length (utf8 separator)))
utf8-join f separator (x ∷ xs) =
    ap utf8 (join-cons f separator x xs)
    ∙ encodes-append (f x) (flat_map (λ y. separator ++ f y) xs)
    ∙ ap (λ bytes. utf8 (f x) ++ bytes) (utf8-flat_map (λ y. separator ++ f y) xs
    ∙ ap (λ g. flat_map g xs) (λ i y. encodes-append separator (f y) i))
    ∙ sym (join-cons (λ y. utf8 (f y)) (utf8 separator) x xs)

pub ran-bytes : {S T E : Type 0} (steps : S → Option T → S → Type 0) (s : S) (read write : List T → List ℕ)
    → ((xs : List T) → utf8 (read xs) ≡ write xs) → (r : Result PlacedText E)
    → IfOk r (λ v. WholeRun steps s (λ p. v.text ≡ read p.items))
    → IfOk r (λ v. WholeRun steps s (λ p. utf8 v.text ≡ write p.items))
ran-bytes steps s read write same (Ok v) (p, start, whole, e) = (p, start, whole, ap utf8 e ∙ same p.items)
ran-bytes steps s read write same (Err _) h = tt

-- the separator before the next item
abbrev pub between : {T : Type 0} → List ℕ → List T → List ℕ
between separator [] = []
between separator (x ∷ xs) = separator

pub join-append : {T : Type 0} (f : T → List ℕ) (separator : List ℕ) (xs : List T) (y : T) (ys : List T)
    → join separator f (xs ++ y ∷ ys) ≡ (join separator f xs ++ between separator xs) ++ join separator f (y ∷ ys)
join-append f separator [] y ys =
    ap (λ l. (l ++ []) ++ join separator f (y ∷ ys)) (sym (drop-nil (length separator)))
join-append f separator (z ∷ zs) y ys =
    let others = flat_map (λ x. separator ++ f x) zs in
    let after = flat_map (λ x. separator ++ f x) ys in
    join-cons f separator z (zs ++ y ∷ ys)
    ∙ ap (λ l. f z ++ l) (flat_map-append (λ x. separator ++ f x) zs (y ∷ ys))
    ∙ sym (append_assoc (f z) others ((separator ++ f y) ++ after))
    ∙ ap (λ l. (f z ++ others) ++ l) (append_assoc separator (f y) after)
    ∙ sym (append_assoc (f z ++ others) separator (f y ++ after))
    ∙ ap (λ l. (l ++ separator) ++ (f y ++ after)) (sym (join-cons f separator z zs))
    ∙ ap (λ l. (join separator f (z ∷ zs) ++ separator) ++ l) (sym (join-cons f separator y ys))

pub join-next : {T : Type 0} (f : T → List ℕ) (separator : List ℕ) (xs : List T) (x : T)
    → join separator f (xs ++ x ∷ []) ≡ (join separator f xs ++ between separator xs) ++ f x
join-next f separator xs x =
    join-append f separator xs x []
    ∙ ap (λ l. (join separator f xs ++ between separator xs) ++ l) (join-one f separator x)

-- z is the text of the items xs and the separator before x, with which they pass 24 bytes
pub passes-joined : {S T : Type 0} (steps : S → Option T → S → Type 0) (f : T → List ℕ) (separator : List ℕ)
    (s t u : S) (xs : List T) (x : T) (z : List ℕ) → Yields steps s xs t → steps t (Some x) u
    → z ≡ join separator f xs ++ between separator xs → 24 < size (z ++ f x)
    → PassesInline steps (join separator f) s
passes-joined steps f separator s t u xs x z came next same h =
    passes steps (join separator f) s t u xs x came next (rw (join-next f separator xs x, ← same) h)

-- all items came, z is their text, and r the outcome of `finish` or `new`
pub finished : {S T E : Type 0} (steps : S → Option T → S → Type 0) (s t u : S) (read : List T → List ℕ) (xs : List T)
    (z : List ℕ) (r : Result PlacedText E) → Yields steps s xs t → steps t None u → z ≡ read xs
    → IfOk r (λ v. v.text ≡ z) → OnErr r (24 < size z)
    → IfOk r (λ v. (ys : List T) × Drains steps s ys × (v.text ≡ read ys)) × OnErr r (PassesInline steps read s)
finished steps s t u read xs z (Ok v) came end same h o = ((xs, (u, (t, came, end)), h ∙ same), tt)
finished steps s t u read xs z (Err _) came end same h o = (tt, (xs, t, came, subst (λ l. 24 < size l) same o))

-- texts are appended to a `String` with the text t, whose text is then u, with a capacity
module _ {U S T : Type 0} (becomes : U → S → Type 0) (steps : S → Option T → S → Type 0) (f : T → List ℕ) (iter : U)
    (capacity : ℕ) (t u : List ℕ) where
  pub strings-ran : {E : Type 0} (r : Result (Unit {0}) E) → OnOk r
      ((it : S) × (xs : List T) × becomes iter it × Drains steps it xs × (u ≡ t ++ flat_map f xs))
      → OnOk r ((it : S) × becomes iter it × WholeRun steps it (λ p. u ≡ t ++ flat_map f p.items))
  strings-ran (Ok _) (it, xs, b, d, e) = (it, b, whole-run steps it xs (λ ys. u ≡ t ++ flat_map f ys) d e)
  strings-ran (Err _) h = tt

  -- never fails if all fit the capacity `first` at the call
  pub strings-succeed : {E : Type 0} (first n : ℕ) (r : Result (Unit {0}) E) → size t ≡ n → first ≤ capacity
      → OnErr r (StopsWithout (run_of becomes steps iter) f capacity t u)
      → ((it : S) → becomes iter it → HoldsAlong steps it (λ xs. n + size (flat_map f xs) ≤ first)) → IsOk r
  strings-succeed first n (Ok _) e grows o h = refl
  strings-succeed first n (Err _) e grows (it, b, o) h =
      let more = h it b (o.0 ++ o.1 ∷ []) o.2 (yields-next steps it o.3.0 o.2 o.0 o.1 o.3.1 o.3.2) in
      absurd (omega (arith, more, grows, size-next f o.0 o.1, o.5, ap size o.4, size-append t (flat_map f o.0), e))

  -- a `String` that was empty gets some text before the item that fails
  pub stopped-gives : t ≡ [] → StopsWithout (run_of becomes steps iter) f capacity t u
      → RunGivesText (run_of becomes steps iter) (flat_map f)
  stopped-gives empty (it, b, o) =
      let so_far : u ≡ flat_map f o.0 = o.4 ∙ ap (λ l. l ++ flat_map f o.0) empty in (
        it,
        b,
        (
          o.0 ++ o.1 ∷ [],
          o.2,
          yields-next steps it o.3.0 o.2 o.0 o.1 o.3.1 o.3.2,
          omega (arith, size-next f o.0 o.1, o.5, ap size so_far),
        ),
      )

-- items read by way of v
pub join-map : {A B : Type 0} (separator : List ℕ) (h : B → List ℕ) (v : A → B) (xs : List A)
    → join separator h (map v xs) ≡ join separator (λ x. h (v x)) xs
join-map separator h v xs = ap (λ l. drop (length separator) l) (flat_map-map (λ y. separator ++ h y) v xs)
