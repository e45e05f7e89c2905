-- The view of a heap buffer: the text of its vector's bytes, and its capacity.
use Rattle.std.proofs.Common.{◌≡◌, ℕ, List, ◌++◌, length, take, drop, ap, sym, ◌∙◌, arith}
use Rattle.std.proofs.lemmas.List.{take_all, take_at}
use Rattle.std.specs.Str.{IsUtf8}
use Rattle.compact_text.specs.Text.{size, text_of}
use Rattle.compact_repr.specs.Value.{HeapText}
use Rattle.compact_text.proofs.Texts.{size-text_of}

pub shown-text : {h : HeapText} {capacity : ℕ} (bytes : List ℕ)
    → record { text = text_of bytes; capacity = capacity } ≡ h → text_of bytes ≡ h.text
shown-text bytes e = ap (λ (h : HeapText). h.text) e

pub shown-capacity : {h : HeapText} {capacity : ℕ} (t : List ℕ) → record { text = t; capacity = capacity } ≡ h
    → capacity ≡ h.capacity
shown-capacity t e = ap (λ (h : HeapText). h.capacity) e

pub shown-size : {h : HeapText} {capacity : ℕ} (bytes : List ℕ)
    → record { text = text_of bytes; capacity = capacity } ≡ h → IsUtf8 bytes → size h.text ≡ length bytes
shown-size bytes e u = ap size (sym (shown-text bytes e)) ∙ size-text_of bytes u

pub whole : (items : List ℕ) (len : ℕ) → len ≡ length items → take len items ≡ items
whole items len e = take_all len items (omega arith)

-- a slice of all items was written
pub written : (items slice : List ℕ) (len : ℕ) → length slice ≡ length items → len ≡ length items
    → take len (slice ++ drop (length slice) items) ≡ slice
written items slice len same e = take_at slice (drop (length slice) items) len (omega arith)
