-- The value of each kind of buffer.
use Rattle.compact_repr.specs.declared.repr.Buffer.{Buffer}
use Rattle.compact_repr.specs.declared.repr.Buffer.TheVariants.{Inline, Heap, Static}
use Rattle.compact_repr.specs.Value.{PlacedText, placed_text}
use Rattle.compact_repr.specs.Capacity.{inline_placement, heap_placement, static_placement}

abbrev pub buffer_value : Buffer → PlacedText
buffer_value (Inline _ t) = placed_text t inline_placement
buffer_value (Heap h) = placed_text h.text (heap_placement h.capacity)
buffer_value (Static t) = placed_text t (static_placement t)
