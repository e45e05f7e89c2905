use Rattle.std.proofs.Common.{◌≡◌, ℕ, ◌+◌, ◌-◌, ◌≤◌, List, length, take, slice_get, Some, vec_len, vec_capacity}
use Rattle.compact_edit.specs.Names.{distinct_texts, texts_of, InternsAll}
use Rattle.compact_edit.proofs.intern.Interner.intern_all.Given as goal

-- the texts so far are taken, names keep their numbers, and there is room for the numbers of the other texts
abbrev pub invariant-loop-text : goal.invariant-loop-text
invariant-loop-text l = record {
  room : vec_len l.numbers + (length l.texts - l.text-index) ≤ vec_capacity l.numbers;
  capacity : vec_capacity l.fn.numbers ≤ vec_capacity l.numbers;
  distinct : distinct_texts l.self ≡ l.self;
  takes : InternsAll l.fn.self (texts_of (take l.text-index l.texts)) l.fn.numbers.items l.self l.numbers.items;
  kept : (n : ℕ) (name : List ℕ) → slice_get l.fn.self n ≡ Some name → slice_get l.self n ≡ Some name;
}
