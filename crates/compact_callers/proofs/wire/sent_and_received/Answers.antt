use Rattle.compact_ext.proofs.WireFacts.{sent-back}
use Rattle.compact_callers.proofs.wire.sent_and_received.Goals as goal

-- the vector was empty, and has the form alone
pub returns : goal.returns
returns c =
    sent-back _ _ _ _ _ c.read_wire.result c.read_wire.ensures.back c.as_slice-rest.ensures.value
    c.in_ok-write_wire.ensures.written c.new-bytes.ensures.items c.write_wire.ensures.sound.text
    c.in_ok-write_wire.ensures.fits
