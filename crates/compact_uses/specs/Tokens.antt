-- Tokens: their kinds, and their texts among the names of an interner.
use Rattle.std.specs.Prelude.{◌≡◌, ◌<◌, ◌++◌, ◌∷◌, ℕ, List, [], length, map, slice_get, if◌then◌else◌, ⊤}
use Rattle.std.specs.Option.{unwrap_or}
use Rattle.std.specs.List.{All}
use Rattle.std.specs.Char.{is_whitespace}
use Rattle.std.specs.Char.Unicode.Alphabetic.{is_alphabetic}
use Rattle.std.specs.Char.Unicode.Numeric.{is_numeric}
use Rattle.compact_edit.specs.Names.{distinct_texts, InternsAll}
use Rattle.compact_edit.specs.declared.intern.TheConstants.{MAX_COUNT}
use Rattle.compact_edit.specs.declared.intern.InternError.{InternError}
use Rattle.compact_edit.specs.declared.intern.InternError.TheVariants.{Reserve, Full}
use Rattle.compact_uses.specs.declared.tokenizer.Kind.{Kind}
use Rattle.compact_uses.specs.declared.tokenizer.Kind.TheVariants.{Word, Number, Space, Mark}
use Rattle.compact_uses.specs.declared.tokenizer.Token.{Token}

-- the kind of token that a character belongs to
abbrev pub kind_of : ℕ → Kind
kind_of c = if is_alphabetic c then Word else if is_numeric c then Number else if is_whitespace c then Space else Mark

-- the name with the token's number
abbrev pub token_text : List (List ℕ) → Token → List ℕ
token_text names token = unwrap_or (slice_get names token.name) []

-- The text is the piece and the rest. The piece has characters of this kind only, and at least one; a mark is one
-- character.
pub record IsPiece (kind : Kind) (piece rest text : List ℕ) : Type 0 where
  pub joined : piece ++ rest ≡ text
  pub filled : 0 < length piece
  pub single : kind ≡ Mark → length piece ≡ 1
  pub alike : All (λ c. kind_of c ≡ kind) piece

-- the text does not begin with a character that continues a piece of this kind
abbrev pub BeginsApart : Kind → List ℕ → Type 0
BeginsApart kind [] = Unit
BeginsApart kind (c ∷ cs) = kind_of c ≡ kind → kind ≡ Mark

-- The text is the rest after characters that continue a piece of this kind: they are of the kind, and none is after a
-- mark.
pub record Continues (kind : Kind) (text rest : List ℕ) : Type 0 where
  pub more : List ℕ
  pub joined : more ++ rest ≡ text
  pub single : kind ≡ Mark → more ≡ []
  pub alike : All (λ c. kind_of c ≡ kind) more

-- the piece is as long as possible
pub record IsFirstPiece (kind : Kind) (piece rest text : List ℕ) : Type 0 where
  pub is : IsPiece kind piece rest text
  pub longest : BeginsApart kind rest

-- the pieces are the first of the text, each as long as possible and of its token's kind; the rest follows
abbrev pub ArePieces : List Token → List (List ℕ) → List ℕ → List ℕ → Type 0
ArePieces [] [] rest text = text ≡ rest
ArePieces [] (piece ∷ pieces) rest text = ⊥
ArePieces (token ∷ tokens) [] rest text = ⊥
ArePieces (token ∷ tokens) (piece ∷ pieces) rest text =
    (others : List ℕ) × IsFirstPiece token.kind piece others text × ArePieces tokens pieces rest others

-- The tokens are the pieces of the text up to this rest. The names are distinct: those before, and the pieces, by first
-- occurrence. The number of each token is that of its piece.
pub record IsTokenized (before names : List (List ℕ)) (tokens : List Token) (rest text : List ℕ) : Type 0 where
  pub pieces : List (List ℕ)
  pub cut : ArePieces tokens pieces rest text
  pub takes : InternsAll before pieces [] names (map (λ token. token.name) tokens)
  pub distinct : distinct_texts names ≡ names

-- the names are those before, and the texts of the first tokens of the text
abbrev pub IsPartlyTokenized : List (List ℕ) → List (List ℕ) → List ℕ → Type 0
IsPartlyTokenized before names text = (tokens : List Token) × (rest : List ℕ)
    × IsTokenized before names tokens rest text

-- the error of a failed tokenization: allocation failed, or no number is left
abbrev pub IsTokenRefusal : List (List ℕ) → InternError → Type 0
IsTokenRefusal names (Reserve error) = ⊤
IsTokenRefusal names Full = length names ≡ MAX_COUNT
