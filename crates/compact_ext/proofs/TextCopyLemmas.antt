-- The same text in other words.
use Rattle.std.proofs.Common.{◌≡◌, ℕ, Bool, true, false, List, [], ◌∷◌, Result, codes, refl, subst, ap, sym, ◌∙◌}
use Rattle.std.specs.Char.{encode_utf8}
use Rattle.std.specs.Str.{chars, IsUtf8}
use Rattle.std.proofs.lemmas.Str.{chars-nil, IsUtf8-nil}
use Rattle.compact_text.proofs.CutLemmas.{text_of-last}
use Rattle.compact_text.proofs.TextFacts.{text_facts}
use Rattle.compact_str.specs.Text.{text_of}
use Rattle.compact_str.specs.Value.{PlacedText}
use Rattle.compact_ext.specs.declared.format.ToCompactStringError.{ToCompactStringError}
use Rattle.compact_ext.specs.Shown.{Converts, bool_text}

-- a conversion to t is one to the same text u, short if Q implies what makes t short
pub shown-as : (t u : List ℕ) (P Q : Type 0) (r : Result PlacedText ToCompactStringError) → Converts t P r → t ≡ u
    → (Q → P) → Converts u Q r
shown-as t u P Q r h e f = subst (λ (x : List ℕ). Converts x Q r) e record {
  text = h.text;
  place = h.place;
  inline = λ q. h.inline (f q);
  succeeds = λ q. h.succeeds (f q);
  allocates = h.allocates;
  err = h.err;
}

text_of-bool : (b : Bool) → text_of (bool_text b) ≡ bool_text b
unfolding chars
text_of-bool true = refl
text_of-bool false = refl

pub shown-true : (b : Bool) → b ≡ true → text_of (codes "true") ≡ bool_text b
shown-true b e = text_of-bool true ∙ ap bool_text (sym e)

pub shown-false : (b : Bool) → b ≡ false → text_of (codes "false") ≡ bool_text b
shown-false b e = text_of-bool false ∙ ap bool_text (sym e)

pub shown-char : (c : ℕ) (bytes : List ℕ) → IsUtf8 bytes → bytes ≡ encode_utf8 c → text_of bytes ≡ c ∷ []
shown-char c bytes is spelt = text_of-last bytes [] c is IsUtf8-nil spelt ∙ rw chars-nil refl

pub ruleset text_copy_facts = (text_facts, shown-true, shown-false, shown-char)
