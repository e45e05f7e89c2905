use Rattle.std.proofs.Common.{◌≡◌, ℕ, ◌+◌, ◌<◌, List, [], ◌∷◌, ◌++◌, length, get_or, map, take, ap, sym, ◌∙◌}
use Rattle.std.proofs.Common.{append-nil}
use Rattle.std.proofs.lemmas.Grind.{flat_map-append}
use Rattle.std.proofs.lemmas.List.{map_more}
use Rattle.std.proofs.KnownBytes.{Appends-trans}
use Rattle.compact_str.specs.Text.{utf8}
use Rattle.compact_str.specs.Order.{text_in}
use Rattle.compact_words.specs.Reports.{bytes_of_lines}
use Rattle.compact_words.proofs.write_lines.Goals as goal

lines-more : {X : Type 0} (f : X → List ℕ) (lines : List X) (i : ℕ) (line : X) (u : List ℕ) → i < length lines
    → line ≡ get_or lines i line → u ≡ utf8 (f line)
    → bytes_of_lines (map f (take (i + 1) lines)) ≡ bytes_of_lines (map f (take i lines)) ++ (u ++ 10 ∷ [])
lines-more f lines i line u within at is =
    ap bytes_of_lines (map_more f lines i line within)
    ∙ flat_map-append (λ l. utf8 l ++ 10 ∷ []) (map f (take i lines)) (f (get_or lines i line) ∷ [])
    ∙ ap (λ z. bytes_of_lines (map f (take i lines)) ++ z) (append-nil (utf8 (f (get_or lines i line)) ++ 10 ∷ [])
    ∙ ap (λ l. utf8 (f l) ++ 10 ∷ []) (sym at) ∙ ap (λ z. z ++ 10 ∷ []) (sym is))

pub loop-line-preserved : goal.loop-line-preserved
loop-line-preserved g c =
    rw (lines-more text_in c.args.lines.now c.loop-line.line-index c.line-item.result _ c.loop-line-test.true
    c.line-item.is c.as_bytes.ensures.bytes)
    (Appends-trans _ _ _ _ _ c.loop-line.invariant (Appends-trans _ _ _ _ _ c.in_ok-write_all.ensures.bytes
    c.in_ok-write_all-2.ensures.bytes))
