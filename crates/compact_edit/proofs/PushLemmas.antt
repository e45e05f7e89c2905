-- Pushes extended by a text.
use Rattle.std.proofs.Common.{◌≡◌, ◌∙◌, ap, append-nil, append_assoc, flat_map, ℕ, ◌+◌, ◌<◌, ◌≤◌, List, [], ◌∷◌, ◌++◌}
use Rattle.std.proofs.Common.{Some, refl, sym, subst, map, take, take_all, get_or, length, arith}
use Rattle.std.proofs.lemmas.List.{take_more, map-append}
use Rattle.std.specs.Prelude.{IsTrue}
use Rattle.std.specs.Borrow.{Bor}
use Rattle.compact_str.proofs.ForCallers.{push_str-text, size-append}
use Rattle.std.proofs.lemmas.List.Concat.{flat_map-cons}
use Rattle.std.proofs.lemmas.Grind.{common_steps}
use Rattle.compact_str.specs.Text.{size, text_of}
use Rattle.compact_str.specs.Value.{PlacedText, placed_text}
use Rattle.compact_str.specs.Capacity.{Growth, IsLawful, inline_placement}
use Rattle.compact_str.specs.Calls.{push_str, push_str_allocates}
use Rattle.compact_str.specs.declared.ReserveError.{ReserveError}
use Rattle.compact_edit.specs.declared.edit.Edit.{Edit}
use Rattle.compact_edit.specs.declared.edit.Edit.TheVariants.{PushStr}
use Rattle.compact_edit.specs.declared.edit.Reply.{Reply}
use Rattle.compact_edit.specs.declared.edit.Reply.TheVariants.{Done, Char, Text, BadPosition, Refused}
use Rattle.compact_edit.specs.Steps.{Step}
use Rattle.compact_edit.specs.Runs.{Run}
use Rattle.compact_edit.proofs.RunLemmas.{run-append}
use Rattle.compact_edit.proofs.BytesMoved.{IsPaid, bytes_moved_by_step-kept, paid-start, paid-push, paid-same}
use Rattle.compact_edit.specs.Pushes.{bytes_moved_by_step, bytes_moved, failure_count, PushesTo}

refusals-append : {P : Type 0} (rs ss : List (Reply P)) → failure_count (rs ++ ss) ≡ failure_count rs + failure_count ss
refusals-append [] ss = omega arith
refusals-append (Done ∷ rs) ss = omega (arith, refusals-append rs ss)
refusals-append (Char c ∷ rs) ss = omega (arith, refusals-append rs ss)
refusals-append (Text t ∷ rs) ss = omega (arith, refusals-append rs ss)
refusals-append (BadPosition ∷ rs) ss = omega (arith, refusals-append rs ss)
refusals-append (Refused e ∷ rs) ss = omega (arith, refusals-append rs ss)

-- one more text, with its step
pushes-append : (P : Type 0) (g : Growth) (texts : List (Bor (List ℕ))) (text : Bor (List ℕ)) (v w : PlacedText)
    (m n k l : ℕ) (reply : Reply P)
    → PushesTo P g texts v m k → Step g v (PushStr text) reply w → n ≡ m + bytes_moved_by_step v w
    → l ≡ k + failure_count (reply ∷ []) → PushesTo P g (texts ++ text ∷ []) w n l
pushes-append P g texts text v w m n k l reply runs step bytes count =
    let empty = placed_text [] inline_placement in
    let edits : List (Edit P) = map PushStr texts in
    let Q : List (Edit P) → Type 0 = λ es. (replies : List (Reply P)) × (run : Run g empty es replies w)
    × (n ≡ bytes_moved g empty es replies w run) × (l ≡ failure_count replies) in
    let more = run-append g empty edits runs.0 v w (PushStr text) reply runs.1 step in
    subst Q (sym (map-append PushStr texts (text ∷ []))) (
      runs.0 ++ reply ∷ [],
      more.0,
      omega (arith, more.1, runs.2, bytes),
      omega (arith, refusals-append runs.0 (reply ∷ []), runs.3, count),
    )

-- the first i texts, and the next, whose push succeeds or fails
pub pushes-done : (P : Type 0) (g : Growth) (texts : List (Bor (List ℕ))) (i : ℕ) (d : Bor (List ℕ))
    (v w : PlacedText) (b m n k l : ℕ) → i < length texts
    → PushesTo P g (take i texts) v m k → push_str g v (text_of (get_or texts i d).now) ≡ Some w
    → b ≡ bytes_moved_by_step v w → n ≡ m + b → l ≡ k → PushesTo P g (take (i + 1) texts) w n l
pushes-done P g texts i d v w b m n k l within runs step bytes more count =
    rw (take_more texts i d within) (pushes-append P g (take i texts) (get_or texts i d) v w m n k l Done runs
    (tt, (refl, step)) (omega (arith, bytes, more)) (omega (arith, count)))

pub pushes-refused : (P : Type 0) (g : Growth) (texts : List (Bor (List ℕ))) (i : ℕ) (d : Bor (List ℕ))
    (v w : PlacedText) (m n k l : ℕ) (e : ReserveError) → i < length texts
    → PushesTo P g (take i texts) v m k → (w ≡ v) × IsTrue (push_str_allocates v (text_of (get_or texts i d).now))
    → n ≡ m → l ≡ k + 1 → PushesTo P g (take (i + 1) texts) w n l
pushes-refused P g texts i d v w m n k l e within runs step bytes count =
    let same : w.placement ≡ v.placement = ap (λ (x : PlacedText). x.placement) step.0 in
    rw (take_more texts i d within)
    (pushes-append P g (take i texts) (get_or texts i d) v w m n k l (Refused e) runs (step.0, tt, step.1)
    (omega (arith, bytes, bytes_moved_by_step-kept v w same)) (omega (arith, count)))

pub pushes-all : (P : Type 0) (g : Growth) (texts : List (Bor (List ℕ))) (i : ℕ) (v : PlacedText) (m k : ℕ)
    → length texts ≤ i → PushesTo P g (take i texts) v m k → PushesTo P g texts v m k
pushes-all P g texts i v m k end runs = subst (λ (ts : List (Bor (List ℕ))). PushesTo P g ts v m k)
    (take_all i texts end) runs

-- the joined texts
abbrev pub texts_of : List (Bor (List ℕ)) → List ℕ
texts_of texts = flat_map (λ (text : Bor (List ℕ)). text_of text.now) texts

size-texts : (t : Bor (List ℕ)) (ts : List (Bor (List ℕ))) → size (texts_of (t ∷ ts)) ≡ size (text_of t.now)
    + size (texts_of ts)
size-texts t ts = ap size (flat_map-cons (λ (text : Bor (List ℕ)). text_of text.now) t ts)
    ∙ size-append (text_of t.now) (texts_of ts)

run-text : {P : Type 0} (g : Growth) (v : PlacedText) (texts : List (Bor (List ℕ))) (replies : List (Reply P))
    (w : PlacedText) → Run g v (map PushStr texts) replies w → failure_count replies ≡ 0
    → w.text ≡ v.text ++ texts_of texts
run-text g v [] [] w run none = rw (run, append-nil) refl
run-text g v [] (r ∷ rs) w run none = absurd run
run-text g v (t ∷ ts) [] w run none = absurd run
run-text g v (t ∷ ts) (Done ∷ rs) w run none =
    run-text g run.0 ts rs w run.2 none
    ∙ ap (λ (x : List ℕ). x ++ texts_of ts) (push_str-text g v run.0 (text_of t.now) run.1.1.1)
    ∙ append_assoc v.text (text_of t.now) (texts_of ts)
    ∙ ap (λ (x : List ℕ). v.text ++ x) (sym (flat_map-cons (λ (text : Bor (List ℕ)). text_of text.now) t ts))
run-text g v (t ∷ ts) (Char c ∷ rs) w run none = cc
run-text g v (t ∷ ts) (Text x ∷ rs) w run none = cc
run-text g v (t ∷ ts) (BadPosition ∷ rs) w run none = absurd (run.1.1 tt)
run-text g v (t ∷ ts) (Refused e ∷ rs) w run none = absurd (omega (arith, none))

-- if no push fails, the result is the joined texts
pub pushes-text : {P : Type 0} (g : Growth) (texts : List (Bor (List ℕ))) (w : PlacedText) (m k : ℕ)
    → PushesTo P g texts w m k → k ≡ 0 → w.text ≡ texts_of texts
pushes-text g texts w m k runs none = run-text g (placed_text [] inline_placement) texts runs.0 w runs.1
    (sym runs.3 ∙ none)

refused-long : (v : PlacedText) (s : List ℕ) → IsTrue (push_str_allocates v s) → 24 < size v.text + size s
refused-long v s asks = grind (arith, common_steps)

-- texts of at most 24 bytes together stay inline, so no push fails
run-fits : {P : Type 0} (g : Growth) (v : PlacedText) (texts : List (Bor (List ℕ))) (replies : List (Reply P))
    (w : PlacedText) → Run g v (map PushStr texts) replies w → size v.text + size (texts_of texts) ≤ 24
    → failure_count replies ≡ 0
run-fits g v [] [] w run short = refl
run-fits g v [] (r ∷ rs) w run short = absurd run
run-fits g v (t ∷ ts) [] w run short = absurd run
run-fits g v (t ∷ ts) (Done ∷ rs) w run short =
    let after : size run.0.text ≡ size v.text + size (text_of t.now) =
    ap size (push_str-text g v run.0 (text_of t.now) run.1.1.1) ∙ size-append v.text (text_of t.now) in
    run-fits g run.0 ts rs w run.2 (omega (arith, after, short, size-texts t ts))
run-fits g v (t ∷ ts) (Char c ∷ rs) w run short = cc
run-fits g v (t ∷ ts) (Text x ∷ rs) w run short = cc
run-fits g v (t ∷ ts) (BadPosition ∷ rs) w run short = absurd (run.1.1 tt)
run-fits g v (t ∷ ts) (Refused e ∷ rs) w run short = absurd (let long = refused-long v (text_of t.now) run.1.2 in
    omega (arith, long, short, size-texts t ts))

pub pushes-fit : {P : Type 0} (g : Growth) (texts : List (Bor (List ℕ))) (w : PlacedText) (m k : ℕ)
    → PushesTo P g texts w m k → size (texts_of texts) ≤ 24 → k ≡ 0
pushes-fit g texts w m k runs short = runs.3 ∙ run-fits g (placed_text [] inline_placement) texts runs.0 w runs.1
    (omega (arith, short))

-- a run of pushes pays for the bytes it moves, and so do pushes onto the empty value, under every lawful policy
run-paid : {P : Type 0} (g : Growth) → IsLawful g → (v : PlacedText) (texts : List (Bor (List ℕ)))
    (replies : List (Reply P)) (w : PlacedText) (m : ℕ) → IsPaid g v.placement (size v.text) m
    → (run : Run g v (map PushStr texts) replies w)
    → IsPaid g w.placement (size w.text) (m + bytes_moved g v (map PushStr texts) replies w run)
run-paid g law v [] [] w m paid run = paid-same g v w m (m + 0) paid run (omega arith)
run-paid g law v [] (r ∷ rs) w m paid run = absurd run
run-paid g law v (t ∷ ts) [] w m paid run = absurd run
run-paid g law v (t ∷ ts) (Done ∷ rs) w m paid run =
    let u = run.0 in
    let next = paid-push g v u (text_of t.now) (bytes_moved_by_step v u) m (m + bytes_moved_by_step v u) law paid
    run.1.1.1 refl refl in
    subst (λ (n : ℕ). IsPaid g w.placement (size w.text) n) (omega arith)
    (run-paid g law u ts rs w (m + bytes_moved_by_step v u) next run.2)
run-paid g law v (t ∷ ts) (Refused e ∷ rs) w m paid run =
    let u = run.0 in
    let same = bytes_moved_by_step-kept v u (ap (λ (x : PlacedText). x.placement) run.1.0) in
    let next = paid-same g v u m (m + bytes_moved_by_step v u) paid run.1.0 (omega (arith, same)) in
    subst (λ (n : ℕ). IsPaid g w.placement (size w.text) n) (omega arith)
    (run-paid g law u ts rs w (m + bytes_moved_by_step v u) next run.2)
run-paid g law v (t ∷ ts) (BadPosition ∷ rs) w m paid run = absurd (run.1.1 tt)
run-paid g law v (t ∷ ts) (Char c ∷ rs) w m paid run = let no : ⊥ = cc in absurd no
run-paid g law v (t ∷ ts) (Text x ∷ rs) w m paid run = let no : ⊥ = cc in absurd no

pub pushes-paid : {P : Type 0} (g : Growth) (texts : List (Bor (List ℕ))) (w : PlacedText) (m k : ℕ) → IsLawful g
    → PushesTo P g texts w m k → IsPaid g w.placement (size w.text) m
pushes-paid g texts w m k law runs =
    subst (λ (n : ℕ). IsPaid g w.placement (size w.text) n) (omega (arith, runs.2))
    (run-paid g law (placed_text [] inline_placement) texts runs.0 w 0 (paid-start g law) runs.1)
