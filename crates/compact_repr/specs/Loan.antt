-- A `&'static [u8]` of which only the right to read is kept.
use Rattle.std.specs.Prelude.{ℕ, List, []}
use mir.Syntax.{named}
use base.Fml.{Fml}
use denote.Builtin.{u8}
use denote.Ref.{Bor}
use denote.RattleType.{RattleType}
use denote.RawPtr.{Ptr, block_ptr}
use denote.Slice.{ShrSlice, shr_slice_vals}

-- the type `&'static [u8]`
abbrev pub StaticSlice : RattleType
StaticSlice = ShrSlice (named 0) [] u8

-- what such a reference owns
abbrev pub static_loan : Bor (List ℕ) → Fml
static_loan bytes = StaticSlice.own_val bytes (shr_slice_vals bytes)

-- the address of the bytes
abbrev pub address : Bor (List ℕ) → Ptr
address bytes = block_ptr bytes.ref_ptr.0 bytes.ref_ptr.1
