-- Facts about names for the interner.
use Rattle.compact_edit.proofs.NameLemmas.{distinct_texts-texts, new-names, known-names, number-of-same}
use Rattle.compact_edit.proofs.NameLemmas.{number-of-known, list_any-bytes_eq, position-bytes_eq, known-text}
use Rattle.compact_edit.proofs.NameLemmas.{number-bytes_eq, known-number, number-bytes_eq, known-number, allocated-long}
use Rattle.compact_edit.proofs.InternLemmas.{takes-none, still-distinct, kept-number, slice_get-contains}

pub ruleset name_facts = (
  distinct_texts-texts,
  new-names,
  known-names,
  number-of-same,
  number-of-known,
  list_any-bytes_eq,
  position-bytes_eq,
  known-text,
  number-bytes_eq,
  known-number,
  kept-number,
  slice_get-contains,
  allocated-long,
)

pub ruleset list_facts = (takes-none, still-distinct)
