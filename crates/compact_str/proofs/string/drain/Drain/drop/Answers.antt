use Rattle.std.proofs.Common.{◌≡◌, rules}
use Rattle.compact_str.specs.Drain.{without_range}
use Rattle.compact_str.proofs.DrainLemmas.{without_range-span}
use Rattle.compact_str.proofs.string.drain.Drain.drop.Goals.{then-len, else-len}
use Rattle.compact_str.proofs.string.drain.Drain.drop.Goals as goal

pub invariant_of-self : goal.invariant_of-self
invariant_of-self g c =
    let d = c.args.self in
    let left : c.if-len.value ≡ without_range d.value.now d.len d.start d.end =
    elim c.if-len.branch [
      | then-len w ↦ search rules
      | else-len w ↦ search rules
    ] in
    rw left record {
      range = without_range-span d.value.now d.len d.start d.end d.start d.end d.range d.range;
      rest = without_range-span d.value.now d.len d.start d.end d.front d.back d.range d.rest;
    }
