-- Lines run one by one.
use Rattle.std.proofs.Common.{rules, codes, ◌≡◌, ℕ, ◌<◌, List, [], ◌∷◌, ◌++◌, ◌+◌, ◌-◌, length, take, drop, get_or}
use Rattle.std.proofs.Common.{Option, Some, None, IfSome, sym, refl, ap, ◌∙◌, append_assoc, append-nil}
use Rattle.std.proofs.Common.{take-append-drop, subst, IsTrue, Result, Ok, Err, IfOk, OnOk, OnErr, Bool, ◌||◌, true}
use Rattle.std.proofs.Common.{inl, inr}
use Rattle.std.specs.Option.{option_map}
use Rattle.std.specs.List.{concat}
use Rattle.std.specs.Io.KnownBytes.{Appends, Keeps, IsAtEnd}
use Rattle.std.specs.Io.BufRead.{drop_through, take_through, strip_last, DropsThrough}
use Rattle.std.specs.Str.{IsUtf8, is_utf8}
use Rattle.std.proofs.KnownBytes.{Appends-nil, Appends-trans}
use Rattle.std.proofs.lemmas.Grind.{flat_map-append}
use Rattle.std.proofs.lemmas.List.{drop_more, take_rest}
use Rattle.std.specs.Borrow.{Bor}
use Rattle.std.proofs.lemmas.Str.{is_utf8-from_IsUtf8}
use Rattle.compact_str.proofs.ForCallers.{invalid-is_utf8}
use Rattle.compact_str.specs.Value.{PlacedText}
use Rattle.compact_str.specs.Capacity.{Growth, standard_growth}
use Rattle.compact_str.specs.declared.Standard.{Standard}
use Rattle.compact_str.specs.declared.ReserveError.{ReserveError}
use Rattle.compact_edit.specs.declared.edit.Edit.{Edit}
use Rattle.compact_edit.specs.declared.edit.Edit.TheVariants as edits
use Rattle.compact_edit.specs.declared.edit.Reply.{Reply}
use Rattle.compact_edit.specs.Steps.{Step}
use Rattle.compact_lines.specs.declared.command.Command.TheVariants as commands
use Rattle.compact_lines.specs.declared.command.Command.{Command}
use Rattle.compact_lines.specs.Sessions.{State, Executes, DoesOrRefuses, runs_edit, command_allocates}
use Rattle.compact_lines.specs.Commands.{line_command, command_itself, edit_itself, command_of}
use Rattle.compact_lines.specs.Lines.{AnswersCommand, outcome_line, value_line, AnswersLine, AnswersLines, IsFirstLine}
use Rattle.compact_lines.specs.Lines.{bytes_of, AppendsFront, AppendsAnswer, AppendsAnswerFront, AppendsPart}
use Rattle.compact_lines.specs.Lines.{AppendsSomeAnswers}

-- an append followed by no change
pub appends-kept : (a b c : Option (List ℕ)) (xs : List ℕ) → Appends a b xs → Keeps b c → Appends a c xs
appends-kept None b c xs first kept = tt
appends-kept (Some known) None c xs first kept = elim first [ ]
appends-kept (Some known) (Some bs) None xs first kept = elim kept [ ]
appends-kept (Some known) (Some bs) (Some cs) xs first kept = kept ∙ first

-- prefixes of some bytes, as written

pub front-all : (old new : Option (List ℕ)) (bytes : List ℕ) → Appends old new bytes → AppendsFront old new bytes
front-all old new bytes all = record {
  written_bytes = bytes;
  rest = [];
  parts = sym (append-nil bytes);
  appended =
      all;
}

pub front-first : (old new : Option (List ℕ)) (head tail : List ℕ) → AppendsFront old new head
    → AppendsFront old new (head ++ tail)
front-first old new head tail front = record {
  written_bytes = front.written_bytes;
  rest = front.rest ++ tail;
  parts = ap (λ l. l ++ tail) front.parts ∙ append_assoc front.written_bytes front.rest tail;
  appended = front.appended;
}

pub front-second : (old mid new : Option (List ℕ)) (head tail : List ℕ) → Appends old mid head
    → AppendsFront mid new tail → AppendsFront old new (head ++ tail)
front-second old mid new head tail first front = record {
  written_bytes = head ++ front.written_bytes;
  rest = front.rest;
  parts = ap (λ l. head ++ l) front.parts ∙ sym (append_assoc head front.written_bytes front.rest);
  appended = Appends-trans old mid new head front.written_bytes first front.appended;
}

-- the next n bytes are written
pub written-more : (all done rest now : List ℕ) (n : ℕ) (old mid new : Option (List ℕ)) → all ≡ done ++ rest
    → now ≡ take (length rest - n) (drop n rest)
    → Appends old mid done → Appends mid new (take n rest) → (x : List ℕ) × (all ≡ x ++ now) × Appends old new x
written-more all done rest now n old mid new split is first more = (
  done ++ take n rest,
  split
      ∙ ap (λ l. done ++ l) (sym (take-append-drop n rest))
      ∙ sym (append_assoc done (take n rest) (drop n rest))
      ∙ ap (λ l. (done ++ take n rest) ++ l) (sym (is ∙ take_rest rest n)),
  Appends-trans old mid new done (take n rest) first more,
)

pub written-same : (all done rest now : List ℕ) (old mid new : Option (List ℕ)) → all ≡ done ++ rest → now ≡ rest
    → Appends old mid done → Keeps mid new → (x : List ℕ) × (all ≡ x ++ now) × Appends old new x
written-same all done rest now old mid new split is first kept =
    (done, split ∙ ap (λ l. done ++ l) (sym is), appends-kept old mid new done first kept)

-- writing stops within the next text
pub texts-stopped : {X E : Type 0} (r : Result X E) (texts : List (Bor (List ℕ))) (i : ℕ) (d : Bor (List ℕ))
    (old mid new : Option (List ℕ)) → i < length texts
    → Appends old mid (bytes_of (take i texts)) → AppendsFront mid new (get_or texts i d).now
    → OnErr r (AppendsFront old new (bytes_of texts))
texts-stopped (Ok x) texts i d old mid new within first front = tt
texts-stopped (Err e) texts i d old mid new within first front =
    let text = (get_or texts i d).now in
    let others = bytes_of (drop (i + 1) texts) in
    let parts : bytes_of (take i texts) ++ (text ++ others) ≡ bytes_of texts =
    sym (flat_map-append (λ (t : Bor (List ℕ)). t.now) (take i texts) (get_or texts i d ∷ drop (i + 1) texts))
    ∙ ap bytes_of (ap (λ x. take i texts ++ x) (sym (drop_more texts i d within)) ∙ take-append-drop i texts) in
    subst (λ l. AppendsFront old new l) parts (front-second old mid new (bytes_of (take i texts)) (text ++ others)
    first (front-first mid new text others front))

-- one more line is run
pub lines-more : (v w u : State) (known left : Option (List ℕ)) (answers : List (List ℕ)) (line answer : List ℕ)
    → AnswersLines v known answers left w → IsFirstLine left line → AnswersLine w line answer u
    → AnswersLines v known (answers ++ answer ∷ []) (option_map (λ bytes. drop_through 10 bytes) left) u
lines-more v w u known left [] line answer so_far first is = (
  line,
  u,
  rw (sym so_far.0) first,
  rw (sym so_far.1) is,
  (ap (λ known. option_map (λ bytes. drop_through 10 bytes) known) so_far.0, refl),
)
lines-more v w u known left (a ∷ others) line answer so_far first is =
    (so_far.0, so_far.1, so_far.2, so_far.3, lines-more so_far.1 w u _ left others line answer so_far.4 first is)

-- the first lines of the known bytes have this output, and the remaining bytes are known
abbrev pub AnswersSoFar : State → Option (List ℕ) → Option (List ℕ) → Option (List ℕ) → Option (List ℕ) → State → Type 0
AnswersSoFar v known now old new w =
    (answers : List (List ℕ)) × (left : Option (List ℕ)) × AnswersLines v known answers left w
    × IfSome left (λ _. now ≡ left) × Appends old new (concat answers)

-- an executed command does this, or fails
pub does-or-refuses : (v w : State) (command : Command) (outcome : Result (Reply Standard) ReserveError)
    → IfOk outcome (λ reply. Executes v.value command reply w.value)
    → OnOk outcome (w.has_room ≡ (runs_edit command || v.has_room))
    → OnErr outcome (IsTrue (command_allocates v.has_room command)) → OnErr outcome (w ≡ v)
    → DoesOrRefuses v command outcome w
does-or-refuses v w command (Ok reply) executes room allocates err = (executes, room)
does-or-refuses v w command (Err e) executes room allocates err = (err, allocates)

-- an executed command, both its lines written
pub command-written : {X E : Type 0} (r : Result X E) (v w : State) (u : PlacedText) (command : Command)
    (outcome : Result (Reply Standard) ReserveError)
    (old mid new : Option (List ℕ)) → DoesOrRefuses v command outcome w
    → Appends old mid (outcome_line outcome) → u ≡ w.value → OnOk r (Appends mid new (value_line u))
    → OnOk r (AppendsAnswer v (Some command) old new w)
command-written (Err e) v w u command outcome old mid new does first same second = tt
command-written (Ok x) v w u command outcome old mid new does first same second =
    let line = rw same at second in
    record {
      answer = outcome_line outcome ++ value_line w.value;
      answers = (outcome, refl, does);
      written = Appends-trans old mid new (outcome_line outcome) (value_line w.value) first line;
    }

-- an executed command, its lines written in part

pub outcome-stopped : {X E : Type 0} (r : Result X E) (v w : State) (command : Command)
    (outcome : Result (Reply Standard) ReserveError) (old new : Option (List ℕ))
    → DoesOrRefuses v command outcome w
    → AppendsFront old new (outcome_line outcome)
    → OnErr r (AppendsAnswerFront v (Some command) old new w)
outcome-stopped (Ok x) v w command outcome old new does front = tt
outcome-stopped (Err e) v w command outcome old new does front = record {
  answer = outcome_line outcome ++ value_line w.value;
  answers = (outcome, refl, does);
  written = front-first old new (outcome_line outcome) (value_line w.value) front;
}

pub value-stopped : {X E : Type 0} (r : Result X E) (v w : State) (u : PlacedText) (command : Command)
    (outcome : Result (Reply Standard) ReserveError)
    (old mid new : Option (List ℕ)) → DoesOrRefuses v command outcome w
    → Appends old mid (outcome_line outcome) → u ≡ w.value → OnErr r (AppendsFront mid new (value_line u))
    → OnErr r (AppendsAnswerFront v (Some command) old new w)
value-stopped (Ok x) v w u command outcome old mid new does first same second = tt
value-stopped (Err e) v w u command outcome old mid new does first same second =
    let line = rw same at second in
    record {
      answer = outcome_line outcome ++ value_line w.value;
      answers = (outcome, refl, does);
      written = front-second old mid new (outcome_line outcome) (value_line w.value) first line;
    }

-- a step does not depend on where references are stored
step-itself : (g : Growth) (v w : PlacedText) (edit : Edit Standard) (reply : Reply Standard) → Step g v edit reply w
    → Step g v (edit_itself edit) reply w
step-itself g v w (edits.PushStr s) reply step = step
step-itself g v w edit reply step = step

executes-itself : (v w : PlacedText) (command : Command) (reply : Reply Standard) → Executes v command reply w
    → Executes v (command_itself command) reply w
executes-itself v w (commands.Retain flags) reply does =
    rw (← does.1) (step-itself standard_growth v w (edits.Retain does.0) reply does.2)
executes-itself v w (commands.Edit edit) reply does = step-itself standard_growth v w edit reply does
executes-itself v w command reply does = does

allocates-itself : (has_room : Bool) (command : Command) → command_allocates has_room (command_itself command)
    ≡ command_allocates has_room command
allocates-itself has_room (commands.Retain flags) = refl
allocates-itself has_room command = refl

runs-itself : (command : Command) → runs_edit (command_itself command) ≡ runs_edit command
runs-itself (commands.Retain flags) = refl
runs-itself command = refl

does-itself : (v w : State) (command : Command) (outcome : Result (Reply Standard) ReserveError)
    → DoesOrRefuses v command outcome w → DoesOrRefuses v (command_itself command) outcome w
does-itself v w command (Ok reply) does =
    (executes-itself v.value w.value command reply does.0, rw (runs-itself command) does.1)
does-itself v w command (Err e) does = (does.0, rw (allocates-itself v.has_room command) does.1)

outcome-itself : (v w : State) (command : Option Command) (answer : List ℕ) → AnswersCommand v command answer w
    → AnswersCommand v (option_map command_itself command) answer w
outcome-itself v w None answer is = is
outcome-itself v w (Some command) answer is = (is.0, is.1, does-itself v w command is.0 is.2)

pub broken-line : (line : List ℕ) → ¬ (IsUtf8 line) → line_command line ≡ None
broken-line line broken = rw (invalid-is_utf8 line broken) refl

-- reading the text of a line reads the line
pub text-line : (line text : List ℕ) (command : Option Command) → (text ≡ line) × IsUtf8 line
    → option_map command_itself command ≡ command_of text → line_command line ≡ option_map command_itself command
text-line line text command is read =
    let told : is_utf8 line ≡ true = is_utf8-from_IsUtf8 line is.1 in
    let of_text : command_of line ≡ option_map command_itself command = rw (← is.0) (sym read) in
    rw told of_text

-- the output of a command is that of its line
pub command-of-line : {X E : Type 0} (r : Result X E) (v w : State) (command : Option Command) (line : List ℕ)
    (old new : Option (List ℕ))
    → line_command line ≡ option_map command_itself command
    → OnOk r (AppendsAnswer v command old new w) → OnOk r (AppendsAnswer v (line_command line) old new w)
command-of-line (Err e) v w command line old new is answered = tt
command-of-line (Ok x) v w command line old new is answered =
    record {
      answer = answered.answer;
      answers = rw is (outcome-itself v w command answered.answer answered.answers);
      written = answered.written;
    }

pub no-command : {X E : Type 0} (r : Result X E) (v : State) (old new : Option (List ℕ))
    → OnOk r (Appends old new (codes "?\n"))
    → OnOk r (AppendsAnswer v None old new v)
no-command (Err e) v old new wrote = tt
no-command (Ok x) v old new wrote = record { answer = codes "?\n"; answers = (refl, refl); written = wrote }

-- likewise a part of it
pub part-of-line : {X E : Type 0} (r : Result X E) (v w : State) (command : Option Command) (line : List ℕ)
    (old new : Option (List ℕ))
    → line_command line ≡ option_map command_itself command
    → OnErr r (AppendsAnswerFront v command old new w) → OnErr r (AppendsPart v line old new)
part-of-line (Ok x) v w command line old new is answered = tt
part-of-line (Err e) v w command line old new is answered =
    inr (
      w,
      record {
        answer = answered.answer;
        answers = rw is
            (outcome-itself v w command answered.answer answered.answers);
        written = answered.written;
      },
    )

pub no-command-stopped : {X E : Type 0} (r : Result X E) (v : State) (old new : Option (List ℕ))
    → OnErr r (AppendsFront old new (codes "?\n"))
    → OnErr r (AppendsAnswerFront v None old new v)
no-command-stopped (Ok x) v old new wrote = tt
no-command-stopped (Err e) v old new wrote = record { answer = codes "?\n"; answers = (refl, refl); written = wrote }

concat-snoc : (xss : List (List ℕ)) (ys : List ℕ) → concat (xss ++ ys ∷ []) ≡ concat xss ++ ys
concat-snoc [] ys = append-nil ys
concat-snoc (xs ∷ xss) ys = ap (λ z. xs ++ z) (concat-snoc xss ys) ∙ sym (append_assoc xs (concat xss) ys)

some-taken : (bytes taken : List ℕ) → taken ≡ take_through 10 bytes → 0 < length taken → 0 < length bytes
some-taken [] taken same some = let none = rw same at some in none
some-taken (b ∷ bytes) taken same some = search rules

first-line : (now left : Option (List ℕ)) (taken line : List ℕ) → IfSome left (λ _. now ≡ left)
    → IfSome now (λ bytes. taken ≡ take_through 10 bytes)
    → 0 < length taken → line ≡ strip_last 10 taken → IsFirstLine left line
first-line now None taken line same takes some stripped = tt
first-line now (Some bytes) taken line same takes some stripped =
    let takes_these = rw same at takes in
    (some-taken bytes taken takes_these some, stripped ∙ ap (λ t. strip_last 10 t) takes_these)

left-next : (now next left : Option (List ℕ)) → IfSome left (λ _. now ≡ left) → DropsThrough now next 10
    → IfSome (option_map (λ bytes. drop_through 10 bytes) left)
    (λ _. next ≡ option_map (λ bytes. drop_through 10 bytes) left)
left-next now next None same drops = tt
left-next now next (Some bytes) same drops = let dropped = rw same at drops in dropped

pub so-far-more : (v w u : State) (known now next old mid new kept : Option (List ℕ)) (taken line : List ℕ)
    → AnswersSoFar v known now old mid w → IfSome now (λ bytes. taken ≡ take_through 10 bytes) → 0 < length taken
    → line ≡ strip_last 10 taken → DropsThrough now next 10
    → AppendsAnswer w (line_command line) mid new u → Keeps new kept
    → AnswersSoFar v known next old kept u
so-far-more v w u known now next old mid new kept taken line so_far takes some stripped drops answered keeps = (
  so_far.0 ++ answered.answer ∷ [],
  option_map (λ bytes. drop_through 10 bytes) so_far.1,
  lines-more v w u known so_far.1 so_far.0 line answered.answer so_far.2
      (first-line now so_far.1 taken line so_far.3 takes some stripped) answered.answers,
  left-next now next so_far.1 so_far.3 drops,
  rw (concat-snoc so_far.0 answered.answer) (appends-kept old new kept (concat so_far.0 ++ answered.answer)
      (Appends-trans old mid new (concat so_far.0) answered.answer so_far.4 answered.written) keeps),
)

at-end : (now left : Option (List ℕ)) → IfSome left (λ _. now ≡ left) → IsAtEnd now → IsAtEnd left
at-end now None same end = tt
at-end now (Some bytes) same end = let here = rw same at end in here

-- the session may stop before the first line, after some lines, or within the output of one

pub stopped-at-first : {X E : Type 0} (r : Result X E) (v : State) (known old : Option (List ℕ))
    → OnErr r (AppendsSomeAnswers v known old old)
stopped-at-first (Ok x) v known old = tt
stopped-at-first (Err e) v known old =
    record {
      answers = [];
      left = known;
      last = v;
      lines = (refl, refl);
      written =
          front-all old old [] (Appends-nil old);
    }

pub stopped-so-far : (v w : State) (known now old new : Option (List ℕ)) → AnswersSoFar v known now old new w
    → AppendsSomeAnswers v known old new
stopped-so-far v w known now old new so_far =
    record {
      answers = so_far.0;
      left = so_far.1;
      last = w;
      lines = so_far.2;
      written =
          front-all old new (concat so_far.0) so_far.4;
    }

pub stopped-after : {X E : Type 0} (r : Result X E) (v w : State) (known now old new : Option (List ℕ))
    → AnswersSoFar v known now old new w
    → OnErr r (AppendsSomeAnswers v known old new)
stopped-after (Ok x) v w known now old new so_far = tt
stopped-after (Err e) v w known now old new so_far = stopped-so-far v w known now old new so_far

within-part : (v w : State) (known now old mid new : Option (List ℕ)) (taken line : List ℕ)
    → AnswersSoFar v known now old mid w → IfSome now (λ bytes. taken ≡ take_through 10 bytes) → 0 < length taken
    → line ≡ strip_last 10 taken → AppendsPart w line mid new → AppendsSomeAnswers v known old new
within-part v w known now old mid new taken line so_far takes some stripped (inl kept) =
    stopped-so-far v w known now old new (
      so_far.0,
      so_far.1,
      so_far.2,
      so_far.3,
      appends-kept old mid new (concat so_far.0) so_far.4 kept,
    )
within-part v w known now old mid new taken line so_far takes some stripped (inr (u, part)) = record {
  answers = so_far.0 ++ part.answer ∷ [];
  left = option_map (λ bytes. drop_through 10 bytes) so_far.1;
  last = u;
  lines = lines-more v w u known so_far.1 so_far.0 line part.answer so_far.2
      (first-line now so_far.1 taken line so_far.3 takes some stripped) part.answers;
  written = rw (concat-snoc so_far.0 part.answer) (front-second old mid new (concat so_far.0) part.answer so_far.4
      part.written);
}

pub stopped-within : {X E : Type 0} (r : Result X E) (v w : State) (known now old mid new : Option (List ℕ))
    (taken line : List ℕ)
    → AnswersSoFar v known now old mid w → IfSome now (λ bytes. taken ≡ take_through 10 bytes) → 0 < length taken
    → line ≡ strip_last 10 taken → AppendsPart w line mid new → OnErr r (AppendsSomeAnswers v known old new)
stopped-within (Ok x) v w known now old mid new taken line so_far takes some stripped part = tt
stopped-within (Err e) v w known now old mid new taken line so_far takes some stripped part =
    within-part v w known now old mid new taken line so_far takes some stripped part
