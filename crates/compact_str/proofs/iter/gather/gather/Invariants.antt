use Rattle.std.proofs.Common.{◌≡◌, ◌<◌, [], ◌++◌}
use Rattle.std.specs.Prelude.{◌⊎◌}
use denote.Text.{Utf8}
use denote.Shadow.{shadow}
use Rattle.compact_repr.specs.Text.{size, text_of}
use Rattle.compact_str.specs.Collect.{join, string_text}
use Rattle.compact_str.proofs.CollectLemmas.{between}
use Rattle.compact_str.proofs.iter.gather.gather.Given as goal

-- the items so far are joined
abbrev pub invariant-loop-piece : goal.invariant-loop-piece
invariant-loop-piece g l = shadow (Utf8 l.between)
    × (string_text l.long ++ l.block ≡ join (text_of l.separator) g.T.Element.text l.yielded)
    × (text_of l.between ≡ between (text_of l.separator) l.yielded)
    × ((string_text l.long ≡ []) ⊎ (24 < size (string_text l.long)))
