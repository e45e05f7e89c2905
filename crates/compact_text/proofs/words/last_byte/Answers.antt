use Rattle.std.proofs.Common.{◌≡◌, ℕ, List, [], ◌∷◌, drop, get_or, ap, sym, ◌∙◌, arith}
use Rattle.std.proofs.lemmas.List.{length-drop, take_all, drop-drop, get_or-drop}
use Rattle.compact_text.specs.WordBytes.{word_bytes}
use Rattle.compact_text.proofs.words.last_byte.Goals as goal

pub returns : goal.returns
returns c =
    let array : List ℕ = c.args.array.now in
    let word : word_bytes c.load8.result ≡ drop 16 array = c.load8.ensures.bytes
    ∙ take_all 8 (drop 16 array) (omega (arith, length-drop 16 array)) in
    let last : drop 23 array ≡ c.high_byte.result ∷ [] = sym (drop-drop 7 16 array) ∙ ap (drop 7) (sym word)
    ∙ c.high_byte.ensures in
    c.from.ensures ∙ sym (ap (λ (ys : List ℕ). get_or ys 0 0) last) ∙ get_or-drop 23 array 0 0
