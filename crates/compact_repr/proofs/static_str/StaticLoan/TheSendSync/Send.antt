-- A static reference to bytes names no thread.
use denote.Slice.{shr_slice_vals}
use denote.Param.Send.{IsSend, owning_send, sendable}
use Rattle.compact_repr.specs.Loan.{StaticSlice}
use Rattle.compact_repr.specs.contracts.static_str.StaticLoan as loan

sent : IsSend StaticSlice
sent = search sendable

pub send : IsSend loan.the_row
send = owning_send loan.the_type tt (λ d. sent.owned d.bytes (shr_slice_vals d.bytes)) (λ _ _ _. tt)
