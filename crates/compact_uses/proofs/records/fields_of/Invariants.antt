use Rattle.std.proofs.Common.{◌≡◌, map, take}
use Rattle.csv.specs.Records.{fields_of}
use Rattle.compact_uses.specs.Records.{bytes_in}
use Rattle.compact_uses.proofs.records.fields_of.Given as goal

-- the fields up to the iterator's place are copied
abbrev pub invariant-loop-field : goal.invariant-loop-field
invariant-loop-field l = record {
  same : l.field-iterator.row.now ≡ l.row;
  copied : map bytes_in l.fields.items ≡ take l.field-iterator.at (fields_of l.row);
}
