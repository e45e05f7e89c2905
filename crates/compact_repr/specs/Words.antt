-- What the clauses of this crate use most.
pub use Rattle.compact_text.specs.Text.{IsText, ascii_lowercase, ascii_uppercase, size, text_of, utf8}
pub use Rattle.compact_text.specs.Cut.{IsBoundary, IsCharAt, replaced_text, substring, text_after, text_before}
pub use Rattle.compact_repr.specs.Value.{HeapText, IsHeap, IsInline, IsOwned, IsSound, IsStatic, PlacedText, inline}
pub use Rattle.compact_repr.specs.Value.{is_heap_place, is_static_place, placed_text}
pub use Rattle.compact_repr.specs.declared.inline.TheConstants.{INLINE_CAPACITY}
pub use Rattle.compact_repr.specs.declared.growth.TheConstants.{MAX_CAPACITY}
pub use Rattle.compact_repr.specs.Capacity.{AllocatesFor, CloneAllocates, Growth, HasNewCapacity, IsLawful}
pub use Rattle.compact_repr.specs.Capacity.{IsPlacedAsNew, KeepsPlace, PlacedFor, const_new_placement, fits_in_place}
pub use Rattle.compact_repr.specs.Capacity.{from_string_placement, heap_placement, inline_placement, owned, room}
pub use Rattle.compact_repr.specs.Capacity.{room_to_append, room_to_replace, standard_growth}
pub use Rattle.compact_repr.specs.Calls.{PopsChar, Shrinks, clear, clone, truncate, zeroize}
