use Rattle.std.proofs.Common.{◌≡◌, ◌+◌, ◌≤◌, ℕ, List, length, slice_get, Some}
use denote.Text.{Utf8}
use denote.Shadow.{shadow}
use Rattle.compact_str.specs.Text.{text_of}
use Rattle.compact_uses.specs.Tokens.{IsTokenized}
use Rattle.compact_uses.proofs.tokenizer.tokenize.Given as goal

-- the tokens are those of the text up to the rest, with at most one name for each character
abbrev pub invariant-loop-piece : goal.invariant-loop-piece
invariant-loop-piece l = record {
  is_text : shadow (Utf8 l.rest);
  done : IsTokenized l.fn.names l.names l.tokens.items (text_of l.rest) l.fn.text.text;
  kept : (n : ℕ) (name : List ℕ) → slice_get l.fn.names n ≡ Some name → slice_get l.names n ≡ Some name;
  left : length (text_of l.rest) ≤ length l.fn.text.text;
  few : length l.names + length (text_of l.rest) ≤ length l.fn.names + length l.fn.text.text;
}

abbrev pub decreases-loop-piece : goal.decreases-loop-piece
decreases-loop-piece l = length (text_of l.rest)
