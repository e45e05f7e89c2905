use Rattle.std.proofs.Common.{arith, ◌≤◌, ◌-◌, length}
use Rattle.std.proofs.lemmas.Str.{IsUtf8-from_ascii}
use Rattle.compact_codec.proofs.InvalidSequenceLemmas.{longer_ascii, ascii_prefix, ascii_to_end}
use Rattle.compact_codec.proofs.utf8.ascii_prefix_len.Goals as goal

pub loop-at-preserved : goal.loop-at-preserved
loop-at-preserved c = (
  omega arith,
  longer_ascii c.args.bytes.now c.loop-at.at 64 c.loop-at.invariant.1
      (c.is_ascii_block.ensures c.if-not-is_ascii_block.false),
)

pub returns-else-is_ascii_block-clause-text : goal.returns-else-is_ascii_block-clause-text
returns-else-is_ascii_block-clause-text c =
    let last = length c.args.bytes.now - 64 in
    let order : last ≤ c.loop-at.at = omega arith in
    IsUtf8-from_ascii _ (ascii_prefix c.args.bytes.now c.loop-at.at last order c.loop-at.invariant.1)

pub returns-then-is_ascii_block-clause-text : goal.returns-then-is_ascii_block-clause-text
returns-then-is_ascii_block-clause-text c =
    let last = length c.args.bytes.now - 64 in
    let order : last ≤ c.loop-at.at = omega arith in
    IsUtf8-from_ascii _ (ascii_to_end c.args.bytes.now c.loop-at.at last 64 order (omega arith) c.loop-at.invariant.1
    (c.is_ascii_block-2.ensures c.if-is_ascii_block.true))
