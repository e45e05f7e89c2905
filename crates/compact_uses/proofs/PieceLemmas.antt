-- Pieces of a text.
use Rattle.std.proofs.Common.{◌≡◌, ◌≢◌, ◌-◌, ◌++◌, ◌∷◌, [], ℕ, List, length, take, ap, sym, ◌∙◌, arith, refl}
use Rattle.std.proofs.Common.{append_assoc}
use Rattle.std.proofs.lemmas.List.Elements.{All-push, All-cons}
use Rattle.std.proofs.lemmas.Str.{chars_past_char}
use Rattle.std.specs.Str.{IsUtf8, IsCharBoundary}
use Rattle.compact_str.specs.Text.{size, text_of}
use Rattle.compact_str.specs.Cut.{IsCut, text_before}
use Rattle.compact_str.proofs.ForCallers.{size-text_of, size-append, text_of-take, text_of-empty, text_before-append}
use Rattle.compact_str.proofs.TextBytes.{boundary-bytes}
use Rattle.compact_uses.specs.declared.tokenizer.Kind.{Kind}
use Rattle.compact_uses.specs.declared.tokenizer.Kind.TheVariants.{Mark}
use Rattle.compact_uses.specs.Tokens.{Continues, IsPiece, kind_of}

pub ruleset piece_facts = (chars_past_char, text_of-empty)

pub continues-more : (kind next : Kind) (c : ℕ) (text rest others : List ℕ) → Continues kind text rest
    → rest ≡ c ∷ others → next ≡ kind_of c
    → (next ≡ kind) × (kind ≢ Mark) → Continues kind text others
continues-more kind next c text rest others before is k (same, no_mark) = record {
  more = before.more ++ c ∷ [];
  joined = append_assoc before.more (c ∷ []) others ∙ rw (sym is) before.joined;
  single = λ mark. absurd (no_mark mark);
  alike = All-push (λ d. kind_of d ≡ kind) before.more c before.alike (sym k ∙ same);
}

-- what is before the rest is a piece
pub record Begun (kind : Kind) (rest text : List ℕ) : Type 0 where
  pub piece : List ℕ
  pub is : IsPiece kind piece rest text

pub begun : (kind : Kind) (c : ℕ) (text others rest : List ℕ) → text ≡ c ∷ others → kind ≡ kind_of c
    → Continues kind others rest → Begun kind rest text
begun kind c text others rest is k before = record {
  piece = c ∷ before.more;
  is = record {
    joined = ap (λ t. c ∷ t) before.joined ∙ sym is;
    filled = omega arith;
    single = λ mark. ap (λ (t : List ℕ). length (c ∷ t)) (before.single mark);
    alike = All-cons (λ d. kind_of d ≡ kind) c before.more (sym k) before.alike;
  };
}

-- the bytes before those of the rest are the piece

cut : (kind : Kind) (bytes rest : List ℕ) (begun : Begun kind (text_of rest) (text_of bytes)) → IsUtf8 bytes
    → IsUtf8 rest
    → IsCut (text_of bytes) (length bytes - length rest) begun.piece (text_of rest)
cut kind bytes rest begun u v = record {
  parts = sym begun.is.joined;
  position = omega (
    arith,
    ap size begun.is.joined,
    size-append begun.piece (text_of rest),
    size-text_of bytes u,
    size-text_of rest v,
  );
}

pub cut-boundary : (kind : Kind) (bytes rest : List ℕ) → Begun kind (text_of rest) (text_of bytes) → IsUtf8 bytes
    → IsUtf8 rest → IsCharBoundary bytes (length bytes - length rest)
cut-boundary kind bytes rest begun u v = boundary-bytes bytes _ refl u (begun.piece, text_of rest, cut kind bytes rest begun u v)

pub cut-piece : (kind : Kind) (bytes front rest : List ℕ) → Begun kind (text_of rest) (text_of bytes) → IsUtf8 bytes
    → IsUtf8 rest
    → front ≡ take (length bytes - length rest) bytes → IsPiece kind (text_of front) (text_of rest) (text_of bytes)
cut-piece kind bytes front rest begun u v is =
    let at = cut kind bytes rest begun u v in
    let piece : text_of front ≡ begun.piece =
    ap text_of is ∙ text_of-take bytes _ refl u (begun.piece, text_of rest, at) ∙ ap (λ t. text_before t (length bytes - length rest)) at.parts ∙ text_before-append _ _ _ at.position in
    rw piece begun.is
