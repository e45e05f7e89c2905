-- What is appended to an empty `String` is all that it has.
use Rattle.std.proofs.Common.{ℕ, List, ◌++◌, ◌≡◌, [], ap, ◌∙◌, flat_map, string_bytes}
use Rattle.std.proofs.lemmas.Str.{chars-nil}
use Rattle.compact_repr.specs.Text.{text_of}
use Rattle.compact_str.specs.Order.{text_in}
use Rattle.compact_str.proofs.CollectLemmas.{stopped-gives}
use Rattle.compact_str.proofs.iter.string.StringFromIteratorPolicyString.from_iter.Goals as goal

pub returns-in-Ok-clause-text : goal.returns-in-Ok-clause-text
returns-in-Ok-clause-text g c =
    let empty : text_of (string_bytes c.new-line.result) ≡ [] = ap text_of c.new-line.ensures.bytes ∙ chars-nil in
    let (it, becomes, (run, starts, ends, text)) = c.in-Ok.ensures.text in
    (it, becomes, (run, starts, ends, text ∙ ap (λ (t : List ℕ). t ++ flat_map text_in run.items) empty))

pub returns-in-Ok-clause-drained : goal.returns-in-Ok-clause-drained
returns-in-Ok-clause-drained g c =
    let empty : text_of (string_bytes c.new-line.result) ≡ [] = ap text_of c.new-line.ensures.bytes ∙ chars-nil in
    let (it, xs, gives, whole, text) = c.in-Ok.ensures.drained in
    (it, xs, gives, whole, text ∙ ap (λ (t : List ℕ). t ++ flat_map text_in xs) empty)

pub returns-in-Err-clause-allocates : goal.returns-in-Err-clause-allocates
returns-in-Err-clause-allocates g c =
    let empty : text_of (string_bytes c.new-line.result) ≡ [] = ap text_of c.new-line.ensures.bytes ∙ chars-nil in
    stopped-gives g.U.IntoIterator.into_iter_gives g.U.IntoIter.Iterator.next_gives text_in c.args.values _ _ _ empty
    c.in-Err.ensures.err
