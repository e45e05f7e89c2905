use Rattle.std.proofs.Common.{◌≡◌}
use Rattle.std.specs.Fmt.{decimal}
use Rattle.compact_ext.specs.Digits.{prepended_number}
use Rattle.compact_text.specs.WordBytes.{le_number}
use Rattle.compact_ext.proofs.to_compact_string.digits.digits_of.Given as goal

-- the text so far, with what is left of the number prepended, is the whole
abbrev pub invariant-loop-rest : goal.invariant-loop-rest
invariant-loop-rest l = prepended_number l.text (decimal l.rest) ≡ le_number (decimal l.n)

abbrev pub decreases-loop-rest : goal.decreases-loop-rest
decreases-loop-rest l = l.rest
