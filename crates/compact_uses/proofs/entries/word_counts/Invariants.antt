use Rattle.std.proofs.Common.{◌≡◌, ◌<◌, ℕ, length, slice_index, take}
use Rattle.compact_uses.specs.Entries.{word_count}
use Rattle.compact_uses.proofs.entries.word_counts.Given as goal

-- each number has the count of its word among the tokens so far
abbrev pub invariant-loop-token : goal.invariant-loop-token
invariant-loop-token l = record {
  len : length l.counts.items ≡ l.names;
  counts : (n : ℕ) → n < l.names → slice_index l.counts.items n ≡ word_count (take l.token-index l.tokens) n;
}
