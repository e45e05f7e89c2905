use Rattle.std.proofs.Common.{◌≡◌, ℕ, ◌^◌, ◌%◌, ◌≤◌, refl, not, cond, leb, List, length, map, take, replicate, ap, sym}
use Rattle.std.proofs.Common.{◌∙◌, subst, arith, inl, inr, w8, IsUtf8}
use Rattle.std.specs.List.{prefix_len}
use Rattle.std.specs.Str.{IsAscii}
use Rattle.std.proofs.lemmas.Bool.{cases_eq}
use Rattle.std.proofs.lemmas.List.{length-map, take-take, length-take-le}
use Rattle.std.proofs.lemmas.List.Sums.{prefix_len-le-length}
use Rattle.std.proofs.lemmas.Simd.{tops_compared, zip2_splat_left, mask_l-mod, leading_from_mask_l, trailing_mask_l}
use Rattle.std.proofs.lemmas.Str.{IsUtf8-from_ascii}
use lib.Count.{count_trailing_zeros}
use lib.Lanes.{zip2, mask_l, top}
use Rattle.compact_codec.proofs.InvalidSequenceLemmas.{front_is_ascii}
use Rattle.compact_codec.proofs.utf8.ascii_len.Goals as goal

mask_is : (block : List ℕ) → length block ≡ 64
    → mask_l (map (top 7) (zip2 (λ a b. cond (leb a b) 255 0) (replicate 64 128) block)) % 2 ^ 64
    ≡ mask_l (map (leb 128) block)
mask_is block long =
    ap (λ ms. mask_l ms % 2 ^ 64)
    (tops_compared w8 leb (replicate 64 128) block ∙ zip2_splat_left leb 128 64 block long)
    ∙ mask_l-mod (map (leb 128) block) 64 (omega (arith, length-map block (leb 128), long))

-- the number of trailing zeros is that of the bytes before the first one that is not ASCII
count_is : (block : List ℕ) → length block ≡ 64
    → count_trailing_zeros 64 (mask_l (map (leb 128) block)) ≡ prefix_len (λ b. not (leb 128 b)) block
unfolding count_trailing_zeros
count_is block long = elim (cases_eq (mask_l (map (leb 128) block)) 0) [
  | inl none ↦ ap (count_trailing_zeros 64) none ∙ sym long ∙ sym (leading_from_mask_l (leb 128) block none)
  | inr some ↦ trailing_mask_l (leb 128) 64 block (omega arith) (omega arith)
]

pub returns-clause-text : goal.returns-clause-text
returns-clause-text c =
    let bytes = c.args.bytes.now in
    let block = take 64 bytes in
    let long = length-take-le 64 bytes c.requires in
    let n = prefix_len (λ b. not (leb 128 b)) block in
    let few : n ≤ 64 = omega (arith, long, prefix_len-le-length (λ b. not (leb 128 b)) block) in
    let counted = ap (count_trailing_zeros 64) (mask_is block long) ∙ count_is block long in
    subst (λ (m : ℕ). IsUtf8 (take m bytes)) (sym counted)
    (IsUtf8-from_ascii (take n bytes) (subst IsAscii (take-take n 64 bytes few) (front_is_ascii block n refl)))
