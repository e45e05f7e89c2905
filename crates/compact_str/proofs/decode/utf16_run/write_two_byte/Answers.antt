use Rattle.std.proofs.Common.{ℕ, ◌-◌, ◌+◌, ◌*◌, ◌≤◌, ◌<◌, ◌∙◌, ◌++◌, ◌||◌, Bool, refl, ap, take, arith, ltb, leb}
use Rattle.std.proofs.lemmas.Bool.{ltb-false, leb-false, le-ltb, lt-leb, or_parts, or_from}
use lib.Lanes.{Each1}
use Rattle.compact_str.proofs.UnitRuns.{block_after, count_some, front_has, two_front, IsOwn, low_own}
use Rattle.compact_str.proofs.decode.utf16_run.write_two_byte.Goals as goal

abbrev other : ℕ → Bool
other u = ltb u 128 || leb 2048 u

pub returns-clause-some : goal.returns-clause-some
returns-clause-some c =
    count_some other c.args.block c.two_byte_count.result c.fits-block.0
    (or_from _ _ (le-ltb _ 128 c.requires.first.0) (lt-leb 2048 _ c.requires.first.1)) c.two_byte_count.ensures

pub returns-clause-own : goal.returns-clause-own
returns-clause-own c =
    front_has other IsOwn (λ u e. low_own u (leb-false 2048 u (or_parts _ _ e).1)) c.args.block c.two_byte_count.result
    c.two_byte_count.ensures

pub returns-clause-bytes : goal.returns-clause-bytes
returns-clause-bytes c =
    let block = c.args.block in
    let n = c.two_byte_count.result in
    let two : Each1 (λ u. (128 ≤ u) × (u < 2048)) (take n block) = front_has other _
    (λ u e. (ltb-false u 128 (or_parts (ltb u 128) _ e).0, leb-false 2048 u (or_parts (ltb u 128) _ e).1)) block n
    c.two_byte_count.ensures in
    block_after c.args.buffer.now c.two_bytes.result c.args.at (c.args.at + 32 - c.args.at) (2 * n) (omega arith)
    (omega (arith, c.told-buffer, c.requires.room)) (omega (arith, (returns-clause-some c).1))
    ∙ ap (λ l. take c.args.at c.args.buffer.now ++ l)
    (ap (take (2 * n)) c.two_bytes.ensures ∙ two_front n (2 * n) block refl two)
