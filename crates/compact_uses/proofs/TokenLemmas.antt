-- Tokens while names are added.
use Rattle.std.proofs.Common.{◌≡◌, ℕ, ◌+◌, ◌≤◌, List, [], ◌∷◌, ◌++◌, not, Some, length, slice_get, flat_map, map, refl}
use Rattle.std.proofs.Common.{ap, sym, ◌∙◌, arith, append-nil, append_assoc, length-append}
use Rattle.std.proofs.lemmas.List.{map-append}
use Rattle.std.proofs.lemmas.List.Filters.{length-filter_both}
use Rattle.std.specs.Cmp.Lexicographic.{pointwise}
use Rattle.std.specs.Prelude.{nat_eq}
use Rattle.compact_edit.specs.Names.{distinct_texts, AreNumbersOf}
use Rattle.compact_edit.proofs.InternLemmas.{takes-none, takes-push, still-distinct}
use Rattle.compact_uses.specs.declared.tokenizer.Token.{Token}
use Rattle.compact_uses.specs.Tokens.{token_text, ArePieces, IsFirstPiece, IsTokenized}

pub tokenized-none : (names : List (List ℕ)) (text : List ℕ) → distinct_texts names ≡ names
    → IsTokenized names names [] text text
tokenized-none names text distinct = record {
  pieces = [];
  cut = refl;
  takes = takes-none names [] distinct;
  distinct = distinct;
}

pieces-push : (tokens : List Token) (pieces : List (List ℕ)) (token : Token) (piece rest others text : List ℕ)
    → ArePieces tokens pieces rest text
    → IsFirstPiece token.kind piece others rest → ArePieces (tokens ++ token ∷ []) (pieces ++ piece ∷ []) others text
pieces-push [] [] token piece rest others text is first = (others, rw is first, refl)
pieces-push [] (p ∷ pieces) token piece rest others text is first = absurd is
pieces-push (t ∷ tokens) [] token piece rest others text is first = absurd is
pieces-push (t ∷ tokens) (p ∷ pieces) token piece rest others text (more, this, is) first =
    (more, this, pieces-push tokens pieces token piece rest others more is first)

-- one more token
pub tokenized-push : (before names after : List (List ℕ)) (tokens listed now : List Token) (token : Token)
    (piece rest others text : List ℕ)
    → now ≡ listed ++ token ∷ [] → listed ≡ tokens → IsTokenized before names tokens rest text
    → IsFirstPiece token.kind piece others rest
    → after ≡ distinct_texts (names ++ piece ∷ []) → slice_get after token.name ≡ Some piece
    → IsTokenized before after now others text
tokenized-push before names after tokens listed now token piece rest others text pushed same done first named at =
    let numbers : map (λ token. token.name) now ≡ map (λ token. token.name) tokens ++ token.name ∷ [] =
    rw (pushed, same) (map-append _ tokens (token ∷ [])) in
    record {
      pieces = done.pieces ++ piece ∷ [];
      cut = rw (pushed, same) (pieces-push tokens done.pieces token piece rest others text done.cut first);
      takes = takes-push before done.pieces names after [] _ _ piece token.name done.takes done.distinct named at
          numbers;
      distinct = still-distinct names after piece named done.distinct;
    }

-- the texts of the tokens, joined
texts-joined : (names : List (List ℕ)) (tokens : List Token) (pieces : List (List ℕ)) (rest text : List ℕ)
    → ArePieces tokens pieces rest text
    → AreNumbersOf names pieces (map (λ token. token.name) tokens) → flat_map (token_text names) tokens ++ rest ≡ text
texts-joined names [] [] rest text is at = sym is
texts-joined names [] (piece ∷ pieces) rest text is at = absurd is
texts-joined names (token ∷ tokens) [] rest text is at = absurd is
texts-joined names (token ∷ tokens) (piece ∷ pieces) rest text (others, first, is) at =
    rw at.0 (append_assoc piece (flat_map (token_text names) tokens) rest)
    ∙ ap (λ t. piece ++ t) (texts-joined names tokens pieces rest others is at.1)
    ∙ first.is.joined

pub tokenized-joined : (before names : List (List ℕ)) (tokens : List Token) (rest text : List ℕ)
    → IsTokenized before names tokens rest text → rest ≡ []
    → flat_map (token_text names) tokens ≡ text
tokenized-joined before names tokens rest text done none =
    sym (append-nil _) ∙ texts-joined names tokens done.pieces [] text (rw none at done.cut)
    (rw done.takes.appended done.takes.places)

-- at most one name is added

length-distinct_texts : (ts : List (List ℕ)) → length (distinct_texts ts) ≤ length ts
length-distinct_texts [] = omega arith
length-distinct_texts (t ∷ ts) =
    let others = length-filter_both (λ u. not (pointwise nat_eq t u)) (λ u. not (not (pointwise nat_eq t u)))
    (λ u. refl) (distinct_texts ts) in
    omega (arith, others, length-distinct_texts ts)

pub one-name : (names after : List (List ℕ)) (piece : List ℕ) → after ≡ distinct_texts (names ++ piece ∷ [])
    → length after ≤ length names + 1
one-name names after piece is = omega (
  arith,
  ap length is,
  length-distinct_texts (names ++ piece ∷ []),
  length-append names (piece ∷ []),
)

pub ruleset token_facts = (one-name, tokenized-none, tokenized-push, tokenized-joined)
