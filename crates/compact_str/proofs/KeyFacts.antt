-- For callers that compare values: equality of texts, and search in a sorted slice.
use Rattle.std.proofs.Common.{◌≡◌, List, [], true, sym, subst}
use Rattle.std.specs.declared.cmp.Ordering.TheVariants.{Equal}
use Rattle.std.specs.Ordering.{ordering_index}
use Rattle.std.specs.Cmp.{on_total}
use Rattle.std.specs.Cmp.Lexicographic.{bytes_decides, texts_ties}
use Rattle.std.specs.List.Retain.{IsFiltered, DiffersFromLast}
use Rattle.std.specs.List.Sorted.{IsSorted, IsNonDecreasingBy, IsStrictlySortedBy}
use Rattle.std.proofs.lemmas.Cmp.{nat_list_cmp_total}
use Rattle.std.proofs.lemmas.List.Filters.{dedup_is}
use Rattle.std.proofs.lemmas.List.Kept.{IsStrictlySortedBy-dedup}
use Rattle.std.proofs.lemmas.List.Sorted.{searchable_from_sorted}
use Rattle.std.proofs.lemmas.Map.Lookups.{exact_bytes}
use Rattle.compact_repr.specs.Value.{PlacedText}
use Rattle.compact_str.specs.Order.{text_in, same_text, text_cmp}

pub texts-from_same : (v w : PlacedText) → same_text v w ≡ true → v.text ≡ w.text
texts-from_same v w e = (bytes_decides v.text w.text).0 e

pub same-from_texts : (v w : PlacedText) → v.text ≡ w.text → same_text v w ≡ true
same-from_texts v w e = (bytes_decides v.text w.text).1 e

pub texts-from_equal : (v w : PlacedText) → text_cmp v w ≡ Equal → v.text ≡ w.text
texts-from_equal v w e = exact_bytes v.text w.text e

-- for a proof by hand: sorted values are in strictly increasing order after `dedup`
pub increasing-from_sorted : (xs ys : List PlacedText) → IsFiltered (DiffersFromLast same_text) [] xs ys
    → IsSorted text_cmp xs → IsStrictlySortedBy text_cmp ys
increasing-from_sorted xs ys kept sorted =
    let distinct = IsStrictlySortedBy-dedup (on_total text_in nat_list_cmp_total)
    (λ (x y : PlacedText). texts_ties x.text y.text) xs sorted in
    subst (λ (zs : List PlacedText). IsStrictlySortedBy text_cmp zs) (sym (dedup_is same_text xs ys kept)) distinct

-- a sorted slice can be searched for any of its values
pub searchable-texts : (row : List PlacedText) (x : PlacedText) → IsSorted text_cmp row
    → IsNonDecreasingBy (λ y. ordering_index (text_cmp y x)) row
searchable-texts row x sorted = searchable_from_sorted nat_list_cmp_total text_in row x.text sorted

pub ruleset search_facts = (searchable-texts)
