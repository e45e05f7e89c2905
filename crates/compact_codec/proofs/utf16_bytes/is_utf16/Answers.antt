use Rattle.std.proofs.Common.{sym}
use Rattle.compact_codec.specs.Utf16Bytes.{units_of}
use Rattle.compact_codec.proofs.Utf16BytesLemmas.{pairs_encode}
use Rattle.compact_codec.proofs.utf16_bytes.is_utf16.Goals as goal

pub returns-in-LittleEndian : goal.returns-in-LittleEndian
returns-in-LittleEndian c =
    let both = pairs_encode c.args.order c.args.bytes.now _ c.if-bytes-ne0.false
    (λ i. units_of (c.in-LittleEndian.is i) (sym c.new.ensures i)) in
    (λ yes. both.0 (c.are_paired.ensures.0 yes), λ text. c.are_paired.ensures.1 (both.1 text))

pub returns-in-BigEndian : goal.returns-in-BigEndian
returns-in-BigEndian c =
    let both = pairs_encode c.args.order c.args.bytes.now _ c.if-bytes-ne0.false
    (λ i. units_of (c.in-BigEndian.is i) (sym c.new-in-BigEndian.ensures i)) in
    (λ yes. both.0 (c.are_paired-in-BigEndian.ensures.0 yes), λ text. c.are_paired-in-BigEndian.ensures.1 (both.1 text))
