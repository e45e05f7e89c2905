-- `of` moves the reference's right into the loan, and returns its pointer. Assumes `Logic`.
use Rattle.std.proofs.Common.{[], ◌∷◌, refl}
use mathlib.Core.List.{List}
use mir.Val.{Val, vptr, vstruct, vcons, vnil}
use types.Kit.{‵, ◌⊛◌, ◌$◌, ◌∵◌, !, qed, done, move, drop, keep, split, join, fjoin, feq_i, fpack, suffices}
use types.Part.{agg, sub, whole}
use types.Run.{enter, addr, from, fld, hop, stop, and_then, no_more, returns}
use types.ByLocal.{alloc_all, pass_all, free_all, look_at, look_in_at, get, sets}
use base.Fml.{ftrue}
use denote.Builtin.{u8, RawPtr, SliceRefOf}
use denote.Exit.{yes}
use denote.Signature.{plain}
use denote.Slice.{shr_slice_vals, shr_slice_Tells, shr_slice_Lawful}
use denote.Steps.{nothing, owned}
use denote.Struct.Owning.{shape}
use denote.Struct.Struct.{Struct, Struct-Makes, within}
use denote.Struct.Declared as declared
use denote.Struct.Tuple.{tuple_type}
use denote.RattleType.{Valss}
use denote.Triple.Walked.{Stays, says, stay_dropped, Goes-dropped, ends_at}
use mir.Syntax.{static}
use Rattle.std.proofs.raw_atomic.Walks.{proved}
use Rattle.compact_repr.specs.Loan.{static_loan, address}
use Rattle.compact_repr.specs.contracts.static_str.StaticLoan as loan
use Rattle.compact_repr.specs.contracts.static_str.StaticLoan.of as f
use Rattle.compact_repr.proofs.static_str.StaticLoan.of.Statement.{statement}
use Rattle.compact_repr.proofs.static_str.StaticLoan.of.Code as code

abbrev stayed : Stays f.ended.signature.params f.ended.kept
stayed = (stay_dropped _ yes, tt)

pub of_spec : {M : Type 1} → statement M
of_spec 𝓤 𝓛 𝓜 𝓡 wired =
    let c = f.clauses 𝓛 𝓜.mem 𝓡.returns in
    proved 𝓛 f.ended stayed c 𝓜 𝓡 (
      Goes-dropped 𝓛 0 (SliceRefOf [] tt (plain (λ _. u8)) (λ _. tt)) yes
          (λ κs x w. refl),
      tt,
    )
    f.Key.name code.function (code.unfolded 𝓤 𝓛.H 𝓜 𝓡 wired)
    (λ κs. (shr_slice_vals, tt)) (λ κs. (shr_slice_Tells static [] u8, tt)) (λ κs qs bounds a _ are.
    let bytes = a.0 in let at = vptr bytes.ref_ptr.0 bytes.ref_ptr.1 in let empty = vstruct vnil in let Fields =
    Struct (shape loan.the_type) in
    let mark : (loan.the_row).Denot = record { bytes = bytes } in let pair = vstruct (vcons at (vcons empty vnil)) in
    let Both = RawPtr ∷ loan.the_row ∷ [] in
    qed 𝓛 ((‵ ftrue ⊛ ‵ (static_loan bytes) ⊛ ‵ ftrue) ∷ ‵ ftrue ∷ []) ∵ split ! $ drop ! $ split ! $ keep ! (0 ∷ []) $
    -- the result owns the loan, and nothing for the pointer
    owned ! Fields _ (Struct-Makes 𝓛 (shape loan.the_type) tt) tt _ (tt, (refl, tt)) $ fjoin ! $
    nothing ! $ move ! (1 ∷ 0 ∷ []) $ fjoin ! $ feq_i ! (List Val) (at ∷ []) (at ∷ []) refl $ fjoin ! $ feq_i !
    (List Val) (pair ∷ []) (pair ∷ []) refl $ fjoin ! $
    fpack ! (Valss Both) (within (declared.shape (tuple_type Both)) (address bytes, (mark, tt)) (pair ∷ []))
    (at ∷ [], (empty ∷ [], tt)) $
    enter ! _ _ _ _ _ $ alloc_all ! (λ l. pass_all ! refl ((shr_slice_Lawful 𝓛 static [] u8).typed bytes _ are.0) $
    sets ! (addr ! (from ! (fld ! refl (hop ! (look_in_at ! 1 (sub ! 0 refl (whole !))) (stop !))))) refl (tt, tt) $
    sets ! (agg ! (no_more !)) refl (tt, tt) $
    sets ! (agg ! (and_then ! (get ! refl) (and_then ! (get ! refl) (no_more !)))) refl (tt, (tt, (tt, tt))) $
    returns ! (look_at ! 0 refl) $ free_all ! refl $
    suffices ! _ (ends_at 𝓛 f.ended stayed c ((κs, qs, bounds, a, (shr_slice_vals bytes, tt)), tt) pair
    (address bytes, mark) (tt, tt) (tt, tt)) $ says ! (refl, refl) $
    nothing ! $ nothing ! $ join ! $ nothing ! $ done !))
