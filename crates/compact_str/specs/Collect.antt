-- Texts that are collected, joined and appended.
use Rattle.std.specs.Prelude.{◌≡◌, ℕ, ◌+◌, ◌<◌, ◌≤◌, List, [], ◌∷◌, ◌++◌, Option, Some, length, drop, flat_map, Result}
use Rattle.std.specs.Prelude.{IfOk, OnOk, OnErr, IsOk, string_bytes}
use Rattle.std.specs.Iterator.{Drains, HoldsAlong, Yields, YieldsThen}
use Rattle.std.specs.Iterator.Runs.{WholeRun}
use Rattle.std.specs.String.{string_capacity}
use Rattle.std.specs.declared.string.String.{String}
use Rattle.compact_repr.specs.Text.{size, text_of, utf8}
use Rattle.compact_repr.specs.Cut.{IsBoundary, text_before}
use Rattle.compact_repr.specs.Value.{PlacedText}
use Rattle.compact_repr.specs.Capacity.{Growth}
use Rattle.compact_repr.specs.declared.inline.TheConstants.{INLINE_CAPACITY}
use Rattle.compact_repr.specs.Words.{AllocatesFor, room_to_append}
use Rattle.compact_repr.specs.Calls.{push_str}
use Rattle.compact_str.specs.Room.{HasRoomFor, infallible_capacity, IsPlacedBySize}

-- w is v after `push_str` of the text of each item in turn
abbrev pub Appends : {A : Type 0} → Growth → (A → List ℕ) → PlacedText → List A → PlacedText → Type 0
Appends g text v [] w = w ≡ v
Appends g text v (x ∷ xs) w = (u : PlacedText) × (push_str g v (text x) ≡ Some u) × Appends g text u xs w

-- the texts of the items, separated
abbrev pub join : {A : Type 0} → List ℕ → (A → List ℕ) → List A → List ℕ
join separator text xs = drop (length separator) (flat_map (λ x. separator ++ text x) xs)

-- the text of one character
abbrev pub char_text : ℕ → List ℕ
char_text c = c ∷ []

-- the text of a `String`
abbrev pub string_text : {Z : Type 0} → String Z → List ℕ
string_text s = text_of (string_bytes s)

-- a run of an iterator: the states that it may start with, and its steps
pub record Run (A : Type 0) : Type 1 where
  pub State : Type 0
  pub starts : State → Type 0
  pub steps : State → Option A → State → Type 0

-- that of the iterator that an iterable becomes
abbrev pub run_of : {U S A : Type 0} → (U → S → Type 0) → (S → Option A → S → Type 0) → U → Run A
run_of {S = S} becomes steps iterable = record { State = S; starts = becomes iterable; steps = steps }

-- P holds of the state that it starts with
abbrev pub ForIterator : {A : Type 0} → (run : Run A) → (run.State → Type 0) → Type 0
ForIterator run P = (it : run.State) × run.starts it × P it

-- P holds of the items of the whole run, by `Drains`
abbrev pub ForDrained : {A : Type 0} → Run A → (List A → Type 0) → Type 0
ForDrained {A} run P = (it : run.State) × (xs : List A) × run.starts it × Drains run.steps it xs × P xs

-- the same by `WholeRun`, as std says it of its own iterators
abbrev pub ForItems : {A : Type 0} → Run A → (List A → Type 0) → Type 0
ForItems run P = ForIterator run (λ it. WholeRun run.steps it (λ whole. P whole.items))

-- P holds of all items that may have come at any time
abbrev pub ForAllItems : {A : Type 0} → Run A → (List A → Type 0) → Type 0
ForAllItems run P = (it : run.State) → run.starts it → HoldsAlong run.steps it P

-- all items are appended in turn
abbrev pub AppendsAll : {A : Type 0} → Run A → Growth → (A → List ℕ) → PlacedText → PlacedText → Type 0
AppendsAll {A} run g text v w = ForIterator run (λ it. (xs : List A) × Drains run.steps it xs × Appends g text v xs w)

-- the items before the one that fails are appended, and appending that one allocates
abbrev pub AppendsUpToRefused : {A : Type 0} → Run A → Growth → (A → List ℕ) → PlacedText → PlacedText → Type 0
AppendsUpToRefused {A} run g text v w =
    ForIterator run (λ it. (xs : List A) × (x : A) × (t : run.State) × YieldsThen run.steps it xs (Some x) t
    × Appends g text v xs w × AllocatesFor w (room_to_append (size (text x))))

-- some items that came make a text of more than 24 bytes
abbrev pub PassesInline : {S A : Type 0} → (S → Option A → S → Type 0) → (List A → List ℕ) → S → Type 0
PassesInline {S = S} {A = A} steps text s = (xs : List A) × (t : S) × Yields steps s xs t × (INLINE_CAPACITY < size (text xs))

abbrev pub RunPassesInline : {A : Type 0} → Run A → (List A → List ℕ) → Type 0
RunPassesInline run text = ForIterator run (λ it. PassesInline run.steps text it)

-- some items that came make a text that is not empty
abbrev pub RunGivesText : {A : Type 0} → Run A → (List A → List ℕ) → Type 0
RunGivesText {A} run text = ForIterator run (λ it. (xs : List A) × (t : run.State) × Yields run.steps it xs t
    × (0 < size (text xs)))

-- the items before the one that fails are appended to a text t, which gives u, and that one exceeds the capacity
abbrev pub StopsWithout : {A : Type 0} → Run A → (A → List ℕ) → ℕ → List ℕ → List ℕ → Type 0
StopsWithout {A} run text capacity t u =
    ForIterator run (λ it. (xs : List A) × (x : A) × (r : run.State) × YieldsThen run.steps it xs (Some x) r
    × (u ≡ t ++ flat_map text xs) × (capacity < size u + size (text x)))

-- what `concat_compact` and `join_compact` ensure: r has the texts of all items of an iterator, and is placed by its
-- size
pub record Joins {S A E : Type 0} (steps : S → Option A → S → Type 0) (joined_text joined_bytes : List A → List ℕ)
    (it : S) (r : Result PlacedText E) : Type 0 where
  pub text : IfOk r (λ v. WholeRun steps it (λ whole. v.text ≡ joined_text whole.items))
  pub bytes : IfOk r (λ v. WholeRun steps it (λ whole. utf8 v.text ≡ joined_bytes whole.items))
  pub place : IfOk r IsPlacedBySize
  pub succeeds : HoldsAlong steps it (λ xs. size (joined_text xs) ≤ INLINE_CAPACITY) → IsOk r
  pub allocates : OnErr r (PassesInline steps joined_text it)

-- what `extend_texts` ensures, of items that are read as `item_text`, and all together as `joined_text`
pub record Extends {A E : Type 0} (run : Run A) (g : Growth) (item_text : A → List ℕ) (joined_text : List A → List ℕ)
    (v : PlacedText)
    (r : Result (Unit {0}) E) (w : PlacedText) : Type 0 where
  pub text : OnOk r (ForItems run (λ xs. w.text ≡ v.text ++ joined_text xs))
  pub pushes : OnOk r (AppendsAll run g item_text v w)
  pub boundary : IsBoundary w.text (size v.text)
  pub front : text_before w.text (size v.text) ≡ v.text
  pub room : infallible_capacity v ≤ infallible_capacity w
  pub succeeds : ForAllItems run (λ xs. HasRoomFor v (size (joined_text xs))) → IsOk r
  pub err : OnErr r (AppendsUpToRefused run g item_text v w)

-- what `from_texts` ensures, of items that are read together as `joined_text`
pub record Collects {A E : Type 0} (run : Run A) (joined_text : List A → List ℕ) (r : Result PlacedText E) : Type
    0 where
  pub text : IfOk r (λ v. ForItems run (λ xs. v.text ≡ joined_text xs))
  pub drained : IfOk r (λ v. ForDrained run (λ xs. v.text ≡ joined_text xs))
  pub place : IfOk r IsPlacedBySize
  pub succeeds : ForAllItems run (λ xs. size (joined_text xs) ≤ INLINE_CAPACITY) → IsOk r
  pub allocates : OnErr r (RunPassesInline run joined_text)

-- what `append_all` ensures, of items that are read as `item_text`
pub record ExtendsString {A Z E : Type 0} (run : Run A) (item_text : A → List ℕ) (s : String Z)
    (r : Result (Unit {0}) E) (t : String Z) : Type 0 where
  pub text : OnOk r (ForItems run (λ xs. string_text t ≡ string_text s ++ flat_map item_text xs))
  pub drained : OnOk r (ForDrained run (λ xs. string_text t ≡ string_text s ++ flat_map item_text xs))
  pub capacity : string_capacity s ≤ string_capacity t
  pub succeeds : ForAllItems run (λ xs. length (string_bytes s) + size (flat_map item_text xs) ≤ string_capacity s)
      → IsOk r
  pub err : OnErr r (StopsWithout run item_text (string_capacity t) (string_text s) (string_text t))
