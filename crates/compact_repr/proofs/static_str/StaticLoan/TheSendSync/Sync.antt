-- The content of a `&StaticLoan` names no thread either.
use denote.Slice.{shr_slice_vals}
use denote.Param.Send.{IsSend, IsSync, struct_sync, sendable}
use denote.Struct.Owning.{shape}
use Rattle.compact_repr.specs.Loan.{StaticSlice}
use Rattle.compact_repr.specs.contracts.static_str.StaticLoan as loan

sent : IsSend StaticSlice
sent = search sendable

pub sync : IsSync loan.the_row
sync = record {
  shared = λ d b o κ. (
    (struct_sync (shape loan.the_type) tt).shared tt b o κ,
    sent.owned d.bytes (shr_slice_vals d.bytes),
  );
}
