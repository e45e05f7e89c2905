-- A text that follows its length is the text of the form.
use Rattle.std.proofs.Common.{◌<◌, ◌^◌, ap, arith, rules, take, drop, sym, subst, ◌∙◌}
use Rattle.std.specs.Str.{IsUtf8}
use Rattle.std.proofs.lemmas.Grind.{common_steps}
use Rattle.compact_ext.proofs.WireLemmas.{form-shown, form-fits}
use Rattle.compact_ext.proofs.WireRecordLemmas.{cut-shows_none, broken-shows_none}
use Rattle.compact_ext.proofs.wire.records.valid_prefix.Goals as goal
use Rattle.compact_ext.proofs.wire.records.valid_prefix.Goals.{then-len-rest-via-then-len-rest, then-len-rest-via-else-len-rest+then-not-is_utf8}

pub returns-clause-shown : goal.returns-clause-shown
returns-clause-shown c =
    let split = c.in-Some.ensures.cases in
    let len = c.number_of-len.result in
    let made = c.in_ok-text.ensures.bytes ∙ ap (take len) split.1 in
    record {
      form = form-shown c.args.bytes.now c.in_ok-text.text.text len (c.number_of-len.ensures ∙ split.0)
          (omega (arith, split.2, c.if-len-rest.false)) made;
      fits = (
        c.in_ok-text.ensures.text,
        form-fits len c.in_ok-text.text.text _ (search rules)
            (omega (arith, split.2, c.if-len-rest.false)) c.in_ok-text.ensures.bytes,
      );
      placed = c.in_ok-text.ensures.place;
    }

-- a length beyond the bytes, or bytes that are not valid UTF-8
pub returns-then-len-rest-clause-shown : goal.returns-then-len-rest-clause-shown
returns-then-len-rest-clause-shown c =
    let split = c.in-Some.ensures.cases in
    let len = c.number_of-len.result in
    let small : len < 2 ^ 32 = search rules in
    let head = c.number_of-len.ensures ∙ split.0 in
    elim c.then-len-rest.branch [
      | then-len-rest-via-then-len-rest w ↦ cut-shows_none c.args.bytes.now len small head
          (omega (arith, split.2, w.if-len-rest.true))
      | then-len-rest-via-else-len-rest+then-not-is_utf8 w ↦
          broken-shows_none c.args.bytes.now len small head (λ (text : IsUtf8 (take len (drop 4 c.args.bytes.now))).
          let shown : IsUtf8 (take len c.in-Some.rest.now) = subst (λ l. IsUtf8 (take len l)) (sym split.1) text in
          let yes = w.is_utf8.ensures.1 shown in
          absurd (grind (arith, common_steps, yes, w.if-not-is_utf8.true)))
    ]
