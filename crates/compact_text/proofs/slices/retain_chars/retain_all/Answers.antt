use Rattle.std.proofs.Common.{of_calls, arith, refl}
use Rattle.compact_text.specs.Text.{text_of}
use Rattle.compact_text.proofs.RetainLemmas.{retained-next, retained-last}
use Rattle.compact_text.proofs.slices.retain_chars.retain_all.Goals as goal

pub returns-clause-text : goal.returns-clause-text
returns-clause-text g c = retained-last g.F.FnMut c.args.keep.now c.loop-read.keep (text_of c.args.slice.now)
    c.loop-read.slice c.loop-read.kept c.loop-read.read (omega arith) c.loop-read.invariant.3

pub loop-character-preserved : goal.loop-character-preserved
loop-character-preserved g c =
    let inv = c.loop-character.invariant in
    let next = c.in-Some.ensures in
    let write = c.move_if-kept in (
      search of_calls,
      omega (arith, inv.1, write.ensures.within),
      omega (arith, next.within refl, write.auto.slice),
      retained-next g.F.FnMut c.args.keep.now c.loop-character.keep c.keep-is_kept.new.self _ c.loop-character.slice
          write.new.slice c.loop-character.kept write.result c.loop-character.read 1 _ c.keep-is_kept.result
          c.keep-is_kept.ensures next.scalar inv.1 next.encoded (next.rest refl) (next.within refl)
          write.ensures.front write.ensures.after inv.3,
      omega (arith, inv.4),
    )

pub loop-read-preserved-then-read-slice : goal.loop-read-preserved-then-read-slice
loop-read-preserved-then-read-slice g c =
    let inv = c.loop-character.invariant in
    let next = c.char_from-character.ensures in
    let write = c.move_if-kept-then-read-slice in (
      search of_calls,
      omega (arith, inv.1, write.ensures.within),
      omega (arith, next.within, write.auto.slice),
      retained-next g.F.FnMut c.args.keep.now c.loop-character.keep c.keep-is_kept-then-read-slice.new.self _
          c.loop-character.slice write.new.slice c.loop-character.kept write.result c.loop-character.read
          c.char_from-character.result.1 _ c.keep-is_kept-then-read-slice.result
          c.keep-is_kept-then-read-slice.ensures next.scalar inv.1 next.encoded next.rest next.within
          write.ensures.front write.ensures.after inv.3,
    )
