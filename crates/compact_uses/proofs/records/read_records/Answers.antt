use Rattle.std.proofs.Common.{◌≡◌, ◌∷◌, ◌++◌, [], ◌∙◌, inr, refl, sym, append-nil, arith}
use Rattle.std.proofs.lemmas.Grind.{common_steps}
use Rattle.compact_uses.proofs.RecordLemmas.{left-first, reads-more}
use Rattle.compact_uses.proofs.records.read_records.Goals as goal

pub loop-row-init : goal.loop-row-init
loop-row-init g c =
    let from = c.from_reader-source.ensures in
    let set = rw c.has_headers.ensures at c.flexible.ensures in
    let items = c.into_records-row-items.ensures in
    rw (c.into_iter-row-iterator.ensures.into_iter_gives ∙ refl, items.rdr) record {
      left = items.left;
      read = record {
        trim = rw set at from.trim ∙ c.new.ensures.trim;
        ready = inr (inr (rw set at from.has_headers, from.headers));
        config = rw set at from.config ∙ c.new.ensures.config;
        records = [];
        appended = sym (append-nil _);
        reached = left-first g.R.Read.remaining _ c.from_reader-source.result from.state from.source;
      };
    }

pub loop-row-preserved : goal.loop-row-preserved
loop-row-preserved g c =
    let inv = c.loop-row.invariant in
    let steps = (c.next.ensures.steps inv.left inv.read.trim).0 inv.read.ready in
    let step = rw (c.in-Some.is, c.in_ok-row.was) at steps in
    let rdr = c.next.new.self.rdr in
    let pushed : c.push.new.self.items ≡ c.loop-row.records.items ++ c.in-Ok.fields ∷ [] =
    grind (arith, common_steps) in
    record {
      left = step.3;
      read = reads-more _ _ _ _ _ inv.read rdr _ c.in_ok-row.field-0 _ step.0 step.1 c.in-Ok.ensures pushed;
    }
