-- The form that was shown is passed over, or its length.
use Rattle.std.proofs.Common.{rules, arith}
use Rattle.compact_ext.proofs.WireLemmas.{took-shown, head-taken}
use Rattle.compact_ext.proofs.WireRecordLemmas.{more-shown, record-read}
use Rattle.compact_ext.proofs.wire.records.next_record.Goals as goal

pub returns-in-Ok-Some : goal.returns-in-Ok-Some
returns-in-Ok-Some g c =
    let filled = rw c.in-Ok.is at c.fill_buf.follows.holds-at-none in
    let shows = rw c.in-Ok-Some.field-0-is at c.in-Ok-Some.ensures.shown in
    record {
      form = took-shown _ _ _ _ c.in-Ok.bytes.now c.in-Ok-Some.text.text c.len.result c.len.ensures.value shows.form
          c.in-Ok.ensures.front c.in-Ok.ensures.end filled.0 filled.1 c.consume.ensures.bytes;
      fits = shows.fits;
      placed = shows.placed;
    }

pub returns-in-Err-valid_prefix : goal.returns-in-Err-valid_prefix
returns-in-Err-valid_prefix g c =
    let filled = rw c.in-Ok.is at c.fill_buf.follows.holds-at-none in
    let long = c.in-Err-valid_prefix.ensures.allocates in
    record {
      fails = head-taken _ _ _ _ c.in-Ok.bytes.now _ long.0 long.1 c.in-Ok.ensures.front c.in-Ok.ensures.end filled.0
          filled.1 c.consume-in-Err-valid_prefix.ensures.bytes;
      begun = more-shown _ c.in-Ok.bytes.now c.in-Ok.ensures.front (λ none. omega (arith, none, long.0));
    }

pub returns-in-Ok-None : goal.returns-in-Ok-None
returns-in-Ok-None g c =
    let filled = rw c.in-Ok.is at c.fill_buf.follows.holds-at-none in
    let more = more-shown _ c.in-Ok.bytes.now c.in-Ok.ensures.front (search rules) in
    record-read _ _ _ c.read_wire.result filled.0 more c.read_wire.ensures.consumed c.read_wire.ensures.fits
    c.read_wire.ensures.place c.read_wire.ensures.err
