use Rattle.std.proofs.Common.{◌≡◌, ℕ, ◌+◌, ◌-◌, ◌≤◌, List, ◌++◌, arith, length, take, refl, le_refl, drop_at, subst}
use Rattle.std.proofs.Common.{◌∙◌, length-take-le}
use Rattle.std.proofs.lemmas.Slice.{take-put_mid_below}
use Rattle.std.specs.Io.KnownBytes.{Consumes}
use Rattle.std.proofs.KnownBytes.{Consumes-trans}
use borrow.Rule.Slice.PartMut.{put_mid, post_of, mid_len, same_len_mid}
use lib.Seq.{take-add, take-append-le}
use Rattle.compact_ext.proofs.wire.read.read_full.Goals as goal

taken-front : (a k n : ℕ) (xs ys : List ℕ) → a ≤ length xs → n ≤ length ys
    → take a xs ++ take n ys ≡ take (a + n) (put_mid a k xs ys)
taken-front a k n xs ys within fits =
    let after = post_of a k xs in
    rw (
      take-add a n (put_mid a k xs ys),
      take-put_mid_below _ _ _ _ _ (le_refl a) within,
      drop_at (take a xs) (ys ++ after) a (length-take-le a xs within),
      take-append-le n ys after fits,
    ) refl

-- the bytes of a read follow those read before
pub loop-at-preserved : goal.loop-at-preserved
loop-at-preserved g c =
    let before = c.loop-at.buffer in
    let within = c.loop-at.invariant.1 in
    let read = c.in-Ok.ensures.bound.0 in
    let stays = same_len_mid _ (length before - c.loop-at.at) _ _ c.read.auto.buf in (
      stays ∙ c.loop-at.invariant.0,
      omega (arith, stays, mid_len c.loop-at.at (length before) before (le_refl _), within, read, c.read.auto.buf),
      subst (Consumes _ _) (taken-front c.loop-at.at _ c.in-Ok.count before c.read.new.buf within read)
          (Consumes-trans _ _ _ _ _ c.loop-at.invariant.2 c.in-Ok.ensures.bytes.0),
    )
