-- Runs extended by an edit.
use Rattle.std.proofs.Common.{◌≡◌, ℕ, ◌+◌, ◌<◌, List, [], ◌∷◌, ◌++◌}
use Rattle.std.proofs.Common.{refl, append_assoc, subst, take, get_or, length, arith}
use Rattle.std.proofs.lemmas.List.{take_more}
use Rattle.compact_str.specs.Value.{PlacedText}
use Rattle.compact_str.specs.Capacity.{Growth}
use Rattle.std.specs.Prelude.{Result, Ok, Err, OnOk, OnErr}
use Rattle.std.specs.Char.{len_utf8}
use Rattle.std.specs.Result.{MatchResult}
use Rattle.compact_str.specs.Words.{PlacedFor, AllocatesFor, room_to_append}
use Rattle.compact_str.specs.declared.ReserveError.{ReserveError}
use Rattle.compact_str.proofs.Functions.{push-from, push_allocates-from}
use Rattle.compact_edit.specs.declared.edit.Edit.{Edit}
use Rattle.compact_edit.specs.declared.edit.Edit.TheVariants.{Push}
use Rattle.compact_edit.specs.declared.edit.Reply.TheVariants.{Done, Refused}
use Rattle.compact_edit.specs.declared.edit.Reply.{Reply}
use Rattle.compact_edit.specs.Steps.{Step}
use Rattle.compact_edit.specs.Pushes.{bytes_moved, bytes_moved_by_step}
use Rattle.compact_edit.specs.Runs.{Run, RunsTo}

-- the step of a push, by its clauses
pub push-step : {P : Type 0} (g : Growth) (v w : PlacedText) (c : ℕ) (r : Result (Unit {0}) ReserveError)
    (reply : Reply P) → OnOk r (w.text ≡ v.text ++ c ∷ []) → OnOk r (PlacedFor g v w (room_to_append (len_utf8 c)))
    → OnErr r (AllocatesFor v (room_to_append (len_utf8 c))) → OnErr r (w ≡ v)
    → MatchResult r (λ _. reply ≡ Done) (λ e. reply ≡ Refused e) → Step g v (Push c) reply w
push-step g v w c (Ok _) reply text place asks same is = rw is (tt, (refl, push-from g v w c text place))
push-step g v w c (Err _) reply text place asks same is = rw is (same, tt, push_allocates-from v c asks)

-- a run extended by an edit, and the bytes that it moves
pub run-append : {P : Type 0} (g : Growth) (v : PlacedText) (edits : List (Edit P)) (replies : List (Reply P))
    (u w : PlacedText) (edit : Edit P) (reply : Reply P) (run : Run g v edits replies u) → Step g u edit reply w
    → (longer : Run g v (edits ++ edit ∷ []) (replies ++ reply ∷ []) w)
    × (bytes_moved g v (edits ++ edit ∷ []) (replies ++ reply ∷ []) w longer ≡ bytes_moved g v edits replies u run
    + bytes_moved_by_step u w)
run-append g v [] [] u w edit reply run step = (
  (w, subst (λ (x : PlacedText). Step g x edit reply w) run step, refl),
  rw run (omega arith),
)
run-append g v [] (r ∷ rs) u w edit reply run step = absurd run
run-append g v (e ∷ es) [] u w edit reply run step = absurd run
run-append g v (e ∷ es) (r ∷ rs) u w edit reply run step =
    let rest = run-append g run.0 es rs u w edit reply run.2 step in
    ((run.0, run.1, rest.0), omega (arith, rest.1))

pub RunsTo-append : {P : Type 0} (g : Growth) (v : PlacedText) (edits : List (Edit P)) (before after : List (Reply P))
    (u w : PlacedText) (edit : Edit P) (reply : Reply P) → RunsTo g v edits before after u → Step g u edit reply w
    → RunsTo g v (edits ++ edit ∷ []) before (after ++ reply ∷ []) w
RunsTo-append g v edits before after u w edit reply runs step =
    (runs.0 ++ reply ∷ [], rw (runs.1, append_assoc) refl, (run-append g v edits runs.0 u w edit reply runs.2 step).0)

-- the run of the first i edits, and a step of the next
pub RunsTo-take_more : {P : Type 0} (g : Growth) (v : PlacedText) (edits : List (Edit P)) (i : ℕ) (edit : Edit P)
    (before after : List (Reply P)) (u w : PlacedText) (reply : Reply P) → i < length edits
    → edit ≡ get_or edits i edit → RunsTo g v (take i edits) before after u → Step g u edit reply w
    → RunsTo g v (take (i + 1) edits) before (after ++ reply ∷ []) w
RunsTo-take_more g v edits i edit before after u w reply h is runs step =
    rw (take_more edits i edit h) (RunsTo-append g v (take i edits) before after u w (get_or edits i edit) reply runs
    (subst (λ (e : _). Step g u e reply w) is step))
