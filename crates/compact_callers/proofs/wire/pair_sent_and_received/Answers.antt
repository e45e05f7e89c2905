use Rattle.std.proofs.Common.{[], ◌∷◌, ◌++◌, ap, sym, ◌∙◌, append-nil}
use Rattle.compact_ext.specs.Wire.{wire, HasForm}
use Rattle.compact_ext.proofs.WireFacts.{all-sent-back, All-nil, All-cons}
use Rattle.compact_callers.proofs.wire.pair_sent_and_received.Goals as goal

-- the vector was empty, and has the two forms alone
pub returns : goal.returns
returns c =
    let name = c.args.name.now.text in
    let value = c.args.value.now.text in
    let first = c.in_ok-write_wire.ensures.written ∙ ap (λ l. l ++ wire name) c.new-bytes.ensures.items in
    let both = c.as_slice.ensures.value ∙ c.in_ok-write_wire-2.ensures.written ∙ ap (λ l. l ++ wire value) first in
    let last = All-cons HasForm value [] (c.write_wire-2.ensures.sound.text, c.in_ok-write_wire-2.ensures.fits)
    (All-nil HasForm) in
    all-sent-back (name ∷ value ∷ []) _ _ _ c.into_vec.ensures.back c.new.ensures
    (both ∙ ap (λ l. wire name ++ l) (sym (append-nil (wire value))))
    (All-cons HasForm name (value ∷ []) (c.write_wire.ensures.sound.text, c.in_ok-write_wire.ensures.fits) last)
