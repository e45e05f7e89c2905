-- Slices that begin with a text, a part of which is replaced.
use Rattle.std.proofs.Common.{◌≡◌, ℕ, ◌+◌, ◌-◌, ◌≤◌, List, [], ◌++◌, length, take, drop, ap, sym, ◌∙◌, arith}
use Rattle.std.proofs.Common.{length-append, append_assoc}
use Rattle.std.proofs.lemmas.List.{length-take-le, take-append-le, take-take, take_all, take_at, drop_at}
use Rattle.std.proofs.lemmas.List.Edits.{length-between, paste_none, take-paste}
use Rattle.std.proofs.lemmas.Slice.{between_is}
use Rattle.std.specs.List.{between, replace_range}
use lib.Seq.{paste}
use Rattle.compact_text.proofs.MovesByBlock.{take-add}

-- the tail is after a gap as wide as s, and s is written in the gap
pub replace_range-paste : (slice s : List ℕ) (len start end : ℕ) → start ≤ end → end ≤ len → len ≤ length slice
    → len + length s ≤ length slice + (end - start)
    → take (len - (end - start) + length s) (paste (paste slice (start + length s) (drop end slice) (len - end)) start
    s (length s))
    ≡ replace_range (take len slice) start end s
replace_range-paste slice s len start end order within held room =
    let gap : ℕ = start + length s in
    let front : List ℕ = take gap slice in
    let tail : List ℕ = between end len slice in
    let rest : List ℕ = drop (gap + (len - end)) slice in
    let moved : List ℕ = paste slice gap (drop end slice) (len - end) in
    let parts : moved ≡ front ++ (tail ++ rest) = append_assoc front tail rest in
    let length_front : length front ≡ gap = length-take-le gap slice (omega arith) in
    let before : take start moved ≡ take start slice = ap (take start) parts
    ∙ take-append-le start front (tail ++ rest) (omega (arith, length_front))
    ∙ take-take start gap slice (omega arith) in
    let behind : drop gap moved ≡ tail ++ rest = ap (drop gap) parts ∙ drop_at front (tail ++ rest) gap length_front in
    let length_before : length (take start slice) ≡ start = length-take-le start slice (omega arith) in
    let length_tail : length tail ≡ len - end = length-between slice end len held in
    let written : take (length s) s ≡ s = take_all (length s) s (omega arith) in
    let whole : paste moved start s (length s) ≡ (take start slice ++ s ++ tail) ++ rest =
    rw (before, written, behind) (simp append_assoc) in
    let length_whole : length (take start slice ++ s ++ tail) ≡ len - (end - start) + length s =
    simp length-append (omega (arith, length_before, length_tail)) in
    ap (take (len - (end - start) + length s)) whole
    ∙ take_at _ rest _ length_whole
    ∙ ap (λ x. take start slice ++ s ++ x) (between_is slice end len)
    ∙ ap (λ x. x ++ s ++ drop end (take len slice)) (sym (take-take start len slice (omega arith)))

-- a part is removed: the tail moves to its start
pub part-out : (slice moved : List ℕ) (len start end : ℕ) → start ≤ end → end ≤ len → len ≤ length slice
    → moved ≡ paste slice start (drop end slice) (len - end)
    → take (len - (end - start)) moved ≡ replace_range (take len slice) start end []
part-out slice moved len start end order within held e =
    let less : len - (end - start) ≡ len - (end - start) + 0 = omega arith in
    let to : start ≡ start + 0 = omega arith in
    let whole : moved ≡ paste slice (start + 0) (drop end slice) (len - end) = e
    ∙ ap (λ (n : ℕ). paste slice n (drop end slice) (len - end)) to in
    ap (λ (n : ℕ). take n moved) less
    ∙ ap (take (len - (end - start) + 0)) (paste_none moved start [] ∙ ap (λ x. paste x start [] 0) whole)
    ∙ replace_range-paste slice [] len start end order within held (omega arith)

pub appended : (slice s : List ℕ) (len : ℕ) → len ≤ length slice
    → take (len + length s) (paste slice len s (length s)) ≡ take len slice ++ s
appended slice s len held =
    let written : take (length s) s ≡ s = take_all (length s) s (omega arith) in
    let length_front : length (take len slice) ≡ len = length-take-le len slice held in
    ap (λ x. take (len + length s) ((take len slice ++ x) ++ drop (len + length s) slice)) written
    ∙ take_at (take len slice ++ s) (drop (len + length s) slice) (len + length s)
    (length-append (take len slice) s ∙ omega (arith, length_front))

-- of n bytes that are written, the first count
pub padded : (slice source chunk : List ℕ) (n at count : ℕ) → count ≤ n → at + n ≤ length slice
    → chunk ≡ take n (drop 0 source) → length chunk ≡ n
    → take (at + count) (paste slice at chunk n) ≡ take at slice ++ take count source
padded slice source chunk n at count most room e lanes =
    let now : List ℕ = paste slice at chunk n in
    let front : List ℕ = take at slice in
    let piece : List ℕ = take n chunk in
    let length_front : length front ≡ at = length-take-le at slice (omega arith) in
    let both : take (at + n) now ≡ front ++ piece = take-paste slice at chunk n (omega arith) (omega (arith, lanes)) in
    let wanted : take count piece ≡ take count source = take-take count n chunk most ∙ ap (take count) e
    ∙ take-take count n source most in
    sym (take-take (at + count) (at + n) now (omega arith))
    ∙ ap (take (at + count)) both
    ∙ take-add (front ++ piece) at count
    ∙ rw (take_at front piece at length_front, drop_at front piece at length_front) (ap (λ x. front ++ x) wanted)
