-- The rulesets that functions name: the lemmas of a source file, or of some of its functions.
use Rattle.compact_repr.proofs.HeapTexts.{shown-text, shown-capacity, shown-size, written, whole}
use Rattle.compact_repr.proofs.ReusedBuffers.{size-string}
use Rattle.compact_text.proofs.AsciiCase.{text_of-in_case}
use Rattle.compact_text.proofs.CutLemmas.{text_of-last_ascii, text_of-replaced, text_of-take}
use Rattle.compact_text.proofs.CutLemmas.{text_of-removed, boundary-within}
use Rattle.compact_text.proofs.RetainLemmas.{text_of-pushed}
use Rattle.compact_text.proofs.SubstringLemmas.{part-text}
use Rattle.std.proofs.Math.Nat.{mul_comm}
use Rattle.std.proofs.lemmas.Bool.{cond-false, lt-leb}
use Rattle.std.proofs.lemmas.Str.{scalars-chars}

pub ruleset growth_facts = mul_comm

pub ruleset view_facts = (shown-text, shown-capacity, shown-size, scalars-chars, written, whole)

pub ruleset edits_facts = (text_of-removed, text_of-in_case, part-text, boundary-within)

pub ruleset heap_facts = (view_facts, text_of-last_ascii, text_of-replaced, text_of-pushed, text_of-take, edits_facts)

pub ruleset repr_facts = (cond-false, lt-leb, size-string)

pub ruleset static_str_facts = scalars-chars
