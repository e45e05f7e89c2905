-- A formatter that writes to a collector appends to its text.
use Rattle.std.proofs.Common.{◌≡◌, ℕ, List, [], ◌∷◌, ap, IfSome, Option, Some, None, ◌∙◌}
use Rattle.std.proofs.lemmas.Str.{encodes-chars}
use Rattle.std.specs.List.{FoldsTo}
use Rattle.std.specs.Fmt.{WritesInCalls, WritesText}
use Rattle.compact_str.specs.Text.{text_of, utf8}
use Rattle.compact_str.specs.Output.{AppendsUtf8}
use Rattle.compact_str.proofs.OutputLemmas.{shown-whole}
use Rattle.compact_ext.specs.declared.format.Collector.{Collector}

abbrev pub CollectorAppends : Collector → List ℕ → Collector → Type 0
CollectorAppends c bytes d = AppendsUtf8 c.value.text bytes d.value.text

taken-parts : (c d : Collector) (parts : List (List ℕ)) → FoldsTo CollectorAppends c parts d
    → FoldsTo AppendsUtf8 c.value.text parts d.value.text
taken-parts c d [] same = ap (λ (x : Collector). x.value.text) same
taken-parts c d (part ∷ parts) (x, first, rest) = (x.value.text, first, taken-parts x d parts rest)

taken : (bytes : List ℕ) (c d : Collector) → WritesInCalls CollectorAppends c bytes d
    → WritesInCalls AppendsUtf8 c.value.text bytes d.value.text
taken bytes c d h = record { parts = h.parts; calls = taken-parts c d h.parts h.calls; whole = h.whole }

pub taken-text : (o : Option (List ℕ)) (c d : Collector) → WritesText CollectorAppends c o d → c.value.text ≡ []
    → IfSome o (λ bytes. d.value.text ≡ text_of bytes)
taken-text None c d h e = tt
taken-text (Some bytes) c d h e = (shown-whole c.value.text d.value.text bytes e (taken bytes c d h)).1

pub taken-bytes : (o : Option (List ℕ)) (c d : Collector) → WritesText CollectorAppends c o d → c.value.text ≡ []
    → IfSome o (λ bytes. utf8 d.value.text ≡ bytes)
taken-bytes None c d h e = tt
taken-bytes (Some bytes) c d h e =
    let all = shown-whole c.value.text d.value.text bytes e (taken bytes c d h) in
    ap utf8 all.1 ∙ encodes-chars bytes all.0
