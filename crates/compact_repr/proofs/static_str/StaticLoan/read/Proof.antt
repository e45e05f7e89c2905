-- `read` rebuilds the reference from its pointer and length. Assumes `Logic`.
use Rattle.std.proofs.Common.{ℕ, ◌<◌, ◌^◌, List, [], ◌∷◌, length, refl, subst, w64}
use mir.Syntax.{named}
use mir.Val.{Val, Fits, vptr, vint}
use types.Kit.{‵, raw, ◌⊛◌, prop, at_ret, ◌$◌, ◌∵◌, !, qed, done, move, drop, keep, split, join, fsplit, regoal}
use types.Kit.{suffices}
use types.Part.{agg}
use types.Run.{enter, of_opd, and_then, no_more, first, blocks, exec, returns}
use types.ByLocal.{alloc_all, pass_all, free_all, look_at, get, sets, sets_last, env}
use contract.Running.{tables}
use base.Logic.{SProp}
use prog.Wp.{WpFn}
use denote.Builtin.{usize, RawPtr, RefOf}
use denote.Exit.{yes}
use denote.Opens.{unhide}
use denote.Plain.{uint_vals, uint_Tells}
use denote.RattleType.{owns}
use denote.RawPtr.{Ptr, ptr_val, rawptr_vals, rawptr_Tells}
use denote.Ref.{shr_vals, shr_Tells}
use denote.Signature.{plain, types_at}
use denote.Slice.{slice_val}
use denote.Steps.{nothing, heard}
use denote.Triple.Entry.{alive}
use denote.Triple.Walked.{Stays, walk_of, says, stay_dropped, Goes-dropped, ends_at}
use Rattle.std.proofs.raw_atomic.Walks.{proved}
use Rattle.compact_repr.specs.Loan.{address}
use Rattle.compact_repr.specs.contracts.static_str.StaticLoan as loan
use Rattle.compact_repr.specs.contracts.static_str.StaticLoan.read as f
use Rattle.compact_repr.proofs.static_str.StaticLoan.read.Statement.{statement}
use Rattle.compact_repr.proofs.static_str.StaticLoan.read.Code as code

abbrev stayed : Stays f.ended.signature.params f.ended.kept
stayed = (stay_dropped _ yes, (stay_dropped _ yes, (stay_dropped _ yes, tt)))

pub read_spec : {M : Type 1} → statement M
read_spec 𝓤 𝓛 𝓜 𝓡 wired =
    let c = f.clauses 𝓛 𝓜.mem 𝓡.returns in let W = walk_of 𝓛 f.ended stayed c in let 𝓣 = tables 𝓤 𝓛.H 𝓜 𝓡 𝓡.env in
    proved 𝓛 f.ended stayed c 𝓜 𝓡 (
      Goes-dropped 𝓛 1 (RefOf (0 ∷ []) tt (plain (λ _. loan.the_row)) (λ _. tt)) yes (λ κs x w. refl),
      (
        Goes-dropped 𝓛 1 (plain (λ _. RawPtr)) yes (λ κs x w. refl),
        (Goes-dropped 𝓛 1 (plain (λ _. usize)) yes (λ κs x w. refl), tt),
      ),
    )
    f.Key.name code.function (code.unfolded 𝓤 𝓛.H 𝓜 𝓡 wired)
    (λ κs. (shr_vals, (rawptr_vals, (uint_vals w64, tt)))) (λ
    κs. (shr_Tells (named 0) κs.0 loan.the_row, (rawptr_Tells, (uint_Tells w64, tt)))) (λ κs qs bounds a _ are.
    let self = a.0 in let bytes = self.now.bytes in let n = length bytes.now in
    let y : W.Ghost = ((κs, qs, bounds, a, (shr_vals self, (rawptr_vals a.1.0, (uint_vals w64 a.1.1.0, tt)))), tt) in
    let words : Ptr → ℕ → List Val = λ p count. vptr self.ref_ptr.0 self.ref_ptr.1 ∷ ptr_val p ∷ vint w64 count ∷ [] in
    let runs : Ptr → ℕ → SProp 𝓤 = λ p count. WpFn 𝓤 𝓛.H 𝓣.C 𝓣.Λ code.function (words p count) (W.post y) in
    qed 𝓛 ((raw (alive 𝓛 f.signature κs qs) ⊛ ‵ (owns (types_at f.signature.params κs) a y.0.4)) ∷ raw
    ((c κs a).requires tt) ∷ []) ∵
    move ! (1 ∷ []) $ heard ! _ (λ asked. let fit : Fits w64 n =
    record { fits = subst (λ (k : ℕ). k < 2 ^ 64) asked.1 are.1.1.0.1 } in
    split ! $ move ! (1 ∷ []) $ fsplit ! $ fsplit ! $ drop ! $ unhide ! $ fsplit ! $ drop ! $ keep ! (0 ∷ 2 ∷ []) $
    -- [what the loan shows; the tokens]
    regoal ! (λ (p : Ptr). prop (runs p a.1.1.0)) asked.0 refl $ regoal ! (λ (k : ℕ). prop (runs (address bytes) k))
    asked.1 refl $
    enter ! 𝓣.C 𝓣.Λ code.function (words (address bytes) n) (W.post y) $ alloc_all !
    (λ l. pass_all ! refl ((tt, tt), ((tt, tt), ((tt, fit), tt))) $
    first ! $ blocks ! $ sets_last ! (agg ! (and_then ! (get ! refl) (and_then ! (get ! refl) (no_more !)))) refl
    (tt, (tt, (fit, tt))) $
    exec ! 𝓣.C 𝓣.Λ (env code.Mir.locals l) code.Mir.t-2 (at_ret _ (W.post y)) $ sets ! (of_opd ! (get ! refl)) refl
    (tt, (tt, (fit, tt))) $
    returns ! (look_at ! 0 refl) $ free_all ! refl $
    suffices ! _ (ends_at 𝓛 f.ended stayed c y (slice_val bytes.ref_ptr n) bytes (tt, (tt, (tt, tt)))
    (tt, (tt, (tt, tt)))) $ says ! refl $
    nothing ! $ nothing ! $ join ! $ nothing ! $ join ! $ nothing ! $ join ! $ move ! (2 ∷ 0 ∷ 1 ∷ []) $ done !)))
