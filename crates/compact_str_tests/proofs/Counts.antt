-- For counting characters of a text with known byte length.
use Rattle.compact_str.proofs.DrainLemmas.{length-least}

pub ruleset counting = (length-least)
