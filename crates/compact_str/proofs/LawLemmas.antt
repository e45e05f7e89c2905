-- Proofs of the laws of the edits.
use Rattle.std.proofs.Common.{◌≡◌, Some, ℕ, ◌+◌, List, [], ◌∷◌, ◌++◌, false, refl, ap, sym, ◌∙◌, subst, arith}
use Rattle.std.proofs.Common.{append_assoc}
use Rattle.std.proofs.lemmas.Grind.{common_steps}
use Rattle.std.proofs.lemmas.Str.{len_utf8_bounds, chars-encodes}
use Rattle.compact_repr.specs.Text.{size}
use Rattle.compact_repr.specs.Cut.{IsBoundary, text_before, text_after}
use Rattle.compact_repr.specs.Value.{PlacedText}
use Rattle.compact_repr.specs.Capacity.{Growth, make_owned_allocates}
use Rattle.compact_repr.specs.Calls.{insert_str}
use Rattle.compact_str.specs.Edits.{Removes, split_tail}
use Rattle.compact_str.specs.Laws.{RemovalUndoesInsertion, TruncationUndoesAppend, AppendUndoesSplit, CloneIsEqual}
use Rattle.compact_str.specs.Laws.{DecodingUndoesEncoding}
use Rattle.compact_codec.proofs.Utf8TextLemmas.{utf8_lossy_text-IsUtf8}
use Rattle.compact_repr.proofs.PlacementLemmas.{push_str-text, insert_str-text}
use Rattle.compact_text.proofs.CutLemmas.{text_before-text_after, text_before-append, text_after-append}
use Rattle.compact_text.proofs.CutLemmas.{size-text_before, size-text_after, boundary-from_size}
use Rattle.compact_str.proofs.PositionLemmas.{boundary-seam, truncate-text}

insert_str-owned : (g : Growth) (v w : PlacedText) (p : ℕ) (s : List ℕ) → insert_str g v p s ≡ Some w
    → make_owned_allocates w ≡ false
insert_str-owned g v w p s e = grind (arith, common_steps)

removes-text : (g : Growth) (w u : PlacedText) (p d : ℕ) (r : Removes g w p d u) → u.text ≡ text_before w.text p ++ r.0
removes-text g w u p d r = let e = r.2 in grind (arith, common_steps)

pub removal_undoes_insertion : RemovalUndoesInsertion
removal_undoes_insertion g v w p c h e =
    let text : w.text ≡ text_before v.text p ++ (c ∷ text_after v.text p) = insert_str-text g v w p (c ∷ []) e
    ∙ append_assoc (text_before v.text p) (c ∷ []) (text_after v.text p) in
    let front : text_before w.text p ≡ text_before v.text p = ap (λ t. text_before t p) text
    ∙ text_before-append (text_before v.text p) _ p (size-text_before v.text p h) in
    let rest : text_after w.text p ≡ c ∷ text_after v.text p = ap (λ t. text_after t p) text
    ∙ text_after-append (text_before v.text p) _ p (size-text_before v.text p h) in
    let boundary : IsBoundary w.text p = boundary-from_size w.text p (ap size front ∙ size-text_before v.text p h) in
    let left : size (text_after w.text p) + p ≡ size w.text = size-text_after w.text p boundary in
    let wide = len_utf8_bounds c in
    record {
      boundary = boundary;
      within = omega (arith, left, ap size rest, wide.0);
      allocates_nothing = insert_str-owned g v w p (c ∷ []) e;
      undoes =
          λ d u r.
          let same : d ∷ r.0 ≡ c ∷ text_after v.text p = sym r.1 ∙ rest in
          let first : d ≡ c = cc in
          let others : r.0 ≡ text_after v.text p = cc in
          (first, removes-text g w u p d r ∙ rw (front, others) (sym (text_before-text_after v.text p)));
    }

pub truncation_undoes_append : TruncationUndoesAppend
truncation_undoes_append g v w s e =
    let text : w.text ≡ v.text ++ s = push_str-text g v w s e in (
      subst (λ (t : List ℕ). IsBoundary t (size v.text)) (sym text) (boundary-seam v.text s (size v.text) refl),
      truncate-text w (size v.text) ∙ ap (λ (t : List ℕ). text_before t (size v.text)) text
          ∙ text_before-append v.text s (size v.text) refl,
    )

split-text : (g : Growth) (v tail : PlacedText) (p : ℕ) → split_tail g v p ≡ Some tail → tail.text ≡ text_after v.text p
split-text g v tail p e = grind (arith, common_steps)

pub append_undoes_split : AppendUndoesSplit
append_undoes_split g v tail w p e k =
    push_str-text g _ w tail.text k ∙ rw (split-text g v tail p e) (sym (text_before-text_after v.text p))

pub clone_is_equal : CloneIsEqual
clone_is_equal g v w e = grind (arith, common_steps)

pub decoding_undoes_encoding : DecodingUndoesEncoding
decoding_undoes_encoding = (
  λ v sound. ((sound.text, refl), chars-encodes v.text sound.text),
  utf8_lossy_text-IsUtf8,
)
