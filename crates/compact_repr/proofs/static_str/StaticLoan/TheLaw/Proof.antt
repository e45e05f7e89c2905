-- A static reference can be duplicated: one is taken from the borrow, and its copy returned. Assumes `Logic`.
use mathlib.Core.List.{[], ◌∷◌}
use seplogic.Ra.Ura.{Ura}
use mir.Syntax.{named, w8}
use base.Logic.{ent, sep, wand, snd∗, apply∗}
use base.Fml.{fbor}
use base.Before.{before}
use types.Logic.{Logic, sem, lfts}
use types.Kit.{‵, raw, ◌⊛◌, later, ◌$◌, ◌∵◌, !, qed, move, keep, use1, use2, split, await, updating, now, done}
use denote.Builtin.{u8}
use denote.Plain.{uint_row_laws}
use denote.Slice.{shr_slice_copy, shr_slice_vals}
use denote.Struct.Lending.{of_Lends}
use Rattle.compact_repr.specs.Loan.{static_loan}
use Rattle.compact_repr.specs.contracts.static_str.StaticLoan as loan
use Rattle.compact_repr.proofs.static_str.StaticLoan.TheLaw.Statement.{statement}

module _ {M : Type 1} {𝓤 : Ura M} (𝓛 : Logic 𝓤) (d : (loan.struct).D) where
  twice : ent 𝓤 (sem 𝓛 (static_loan d.bytes)) (sep 𝓤 (sem 𝓛 (static_loan d.bytes)) (sem 𝓛 (static_loan d.bytes)))
  twice = (shr_slice_copy 𝓛 (named 0) [] u8 (uint_row_laws w8)).twice d.bytes (shr_slice_vals d.bytes)

pub shares : statement
shares = of_Lends loan.struct loan.the_codes loan.the_heap loan.the_lent
    (λ d _. record {
      contraction = λ M 𝓤 𝓛 κ. twice 𝓛 d;
      mono =
          λ M 𝓤 𝓛 κ' κ. snd∗ 𝓤 (sem 𝓛 (before κ' κ)) (sem 𝓛 (static_loan d.bytes));
    }) tt
    (λ M 𝓤 𝓛 d _ κ ts _ alive.
    let F = static_loan d.bytes in let closed = sep 𝓤 (𝓛.A.bor κ F) (lfts 𝓛 ts) in
    qed 𝓛 (‵ (fbor κ F) ∷ raw (lfts 𝓛 ts) ∷ []) ∵ updating ! $
    use2 𝓛 (later (‵ F ⊛ raw (wand 𝓤 (sem 𝓛 F) (𝓛.H.⇛ closed)))) (𝓛.more.bor_acc_by κ ts F alive) $ await ! tt $ split
    ! $
    use1 𝓛 (‵ F ⊛ ‵ F) (twice 𝓛 d) $ split ! $ move ! (0 ∷ 2 ∷ []) $
    use2 𝓛 (later (‵ (fbor κ F) ⊛ raw (lfts 𝓛 ts))) (apply∗ 𝓤 (sem 𝓛 F) (𝓛.H.⇛ closed)) $ await ! tt $ split ! $ keep
    ! (2 ∷ 1 ∷ []) $ now ! $ done !)
