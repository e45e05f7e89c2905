use Rattle.std.proofs.Common.{◌≡◌, map, take}
use Rattle.compact_str.specs.Order.{text_in}
use Rattle.compact_words.specs.Reports.{entry_fields}
use Rattle.compact_words.proofs.frequent.table_of.Given as goal

-- the records so far
abbrev pub invariant-loop-entry : goal.invariant-loop-entry
invariant-loop-entry l = map (λ fields. map text_in fields.items) l.table.items
    ≡ map (entry_fields l.names) (take l.entry-index l.shown)
