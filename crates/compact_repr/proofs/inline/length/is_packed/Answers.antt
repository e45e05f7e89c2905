use Rattle.std.proofs.Common.{◌<◌, ◌≤◌, refl, arith, inl, inr, ⊎_elim, slice_index}
use Rattle.std.specs.Prelude.{◌⊎◌}
use Rattle.std.proofs.lemmas.Bool.{false≢true}
use Rattle.compact_repr.proofs.PackedTexts.{packed-last, packed-utf8, len-most, packs-read}
use Rattle.compact_repr.proofs.PackedTexts.{ascii_packed}
use Rattle.compact_repr.proofs.inline.length.is_packed.Goals as goal

pub returns-then-last-gt-MAX_LAST_BYTE : goal.returns-then-last-gt-MAX_LAST_BYTE
returns-then-last-gt-MAX_LAST_BYTE c = (
  (λ h. absurd (false≢true h)),
  (λ p. let last = packed-last c.args.bytes.now _ p in absurd
      (omega (arith, last, c.last_byte-last.ensures, c.if-last-gt-MAX_LAST_BYTE.true))),
)

pub returns-then-last-ge192 : goal.returns-then-last-ge192
returns-then-last-ge192 c =
    let most = len-most c.args.bytes.now (omega (arith, c.last_byte-last.ensures, c.if-last-gt-MAX_LAST_BYTE.false)) in
    let end : (slice_index c.args.bytes.now 23 < 128) ⊎ (192 ≤ slice_index c.args.bytes.now 23) =
    ⊎_elim
    (λ (low : c.last_byte-last.result < 128). inl (omega (arith, c.last_byte-last.ensures, low)))
    (λ (high : (128 ≤ c.last_byte-last.result) × (192 ≤ c.last_byte-last.result)). let more = high.1 in
    inr (omega (arith, c.last_byte-last.ensures, more)))
    c.if-last-ge192.either in
    let text = ascii_packed c.args.bytes.now c.told-bytes (c.if-first_23_are_ascii.ensures refl) end
    (omega (arith, c.last_byte-last.ensures, c.if-last-gt-MAX_LAST_BYTE.false)) in
    ((λ _. packs-read c.args.bytes.now c.told-bytes most text), (λ _. refl))

pub returns-in-Ok : goal.returns-in-Ok
returns-in-Ok c =
    let most = len-most c.args.bytes.now (omega (arith, c.last_byte-last.ensures, c.if-last-gt-MAX_LAST_BYTE.false)) in (
      (λ _. packs-read c.args.bytes.now c.told-bytes most (rw (← c.decode_len.ensures) c.in-Ok.ensures.cases.1)),
      (λ _. refl),
    )

pub returns-in-Err : goal.returns-in-Err
returns-in-Err c = (
  (λ h. absurd (false≢true h)),
  (λ p. absurd (c.in-Err.ensures.cases.0
      (rw c.decode_len.ensures (packed-utf8 c.args.bytes.now _ p)))),
)
