-- What the clauses of this crate use most.
pub use Rattle.compact_repr.specs.Words.{AllocatesFor, HasNewCapacity, IsBoundary, IsHeap, IsInline, IsOwned}
pub use Rattle.compact_repr.specs.Words.{IsPlacedAsNew, IsSound, IsStatic, KeepsPlace, PlacedFor, PlacedText, PopsChar}
pub use Rattle.compact_repr.specs.Words.{Shrinks, ascii_lowercase, ascii_uppercase, clear, clone, const_new_placement}
pub use Rattle.compact_repr.specs.Words.{from_string_placement, inline, inline_placement, is_heap_place, owned}
pub use Rattle.compact_repr.specs.Words.{placed_text, replaced_text, room, room_to_append, room_to_replace, size}
pub use Rattle.compact_repr.specs.Words.{standard_growth, substring, text_after, text_before, text_of, truncate, utf8}
pub use Rattle.compact_repr.specs.Words.{zeroize}
pub use Rattle.compact_repr.specs.declared.inline.TheConstants.{INLINE_CAPACITY}
pub use Rattle.compact_repr.specs.declared.growth.TheConstants.{MAX_CAPACITY}
pub use Rattle.compact_repr.specs.Cut.{IsCut}
pub use Rattle.compact_repr.specs.Capacity.{clone_allocates, with_capacity_placement}
pub use Rattle.compact_str.specs.Room.{HasRoomFor, infallible_capacity}
