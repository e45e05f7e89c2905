-- The rulesets that functions name: the lemmas of a source file, or of some of its functions.
use Rattle.compact_ext.proofs.FormatLemmas.{taken-text, taken-bytes}
use Rattle.compact_ext.proofs.PackedBuffers.{text-front, no_text-front}
use Rattle.compact_ext.proofs.TakenLines.{fails-after}
use Rattle.compact_ext.proofs.TextCopyLemmas.{shown-as}
use Rattle.compact_ext.proofs.WireLemmas.{IfErr-map, read-fails, reads-back}
use Rattle.compact_repr.proofs.PackedTexts.{packed-len}
use Rattle.std.proofs.lemmas.Fmt.{length-decimal-le, length-decimal-le_wide, decimal_digit, decimal_step_wide}
use Rattle.std.proofs.lemmas.Result.{err_from_is_err_and}
use Rattle.std.proofs.lemmas.Str.{chars-IsAscii}

pub ruleset format_facts = (taken-text, taken-bytes)

pub ruleset lines_facts = (err_from_is_err_and, fails-after)

pub ruleset int128_facts = (chars-IsAscii, shown-as)

pub ruleset laws_facts = (length-decimal-le, length-decimal-le_wide, decimal_digit, decimal_step_wide)

pub ruleset read_facts = (err_from_is_err_and, IfErr-map, read-fails, reads-back, packed-len, text-front, no_text-front)
