-- What a `Display` writes to an empty builder is then appended.
use Rattle.std.proofs.Common.{◌≡◌, ℕ, List, [], ◌∷◌, ◌++◌, Option, Some, None, Result, Ok, Err, OnOk, OnErr, ap, sym}
use Rattle.std.proofs.Common.{subst, ◌∙◌, append_assoc, append-nil}
use Rattle.std.proofs.lemmas.Str.{chars-nil, chars-append, encodes-append, encodes-chars, IsUtf8-nil, IsUtf8-append}
use Rattle.std.specs.Fmt.{WritesInCalls, WritesText}
use Rattle.std.specs.List.{FoldsTo, concat}
use Rattle.std.specs.Str.{IsUtf8}
use Rattle.compact_repr.specs.Text.{size, text_of, utf8}
use Rattle.compact_repr.specs.Value.{PlacedText}
use Rattle.compact_repr.specs.Capacity.{Growth, room_to_append, PlacedFor}
use Rattle.compact_text.proofs.Texts.{size-text_of}
use Rattle.compact_str.specs.Output.{AppendsUtf8, PushesOutput}

-- the parts together are one text, appended to the text before
shown-parts : (t u : List ℕ) (parts : List (List ℕ)) → FoldsTo AppendsUtf8 t parts u → AppendsUtf8 t (concat parts) u
shown-parts t u [] same = (IsUtf8-nil, rw (chars-nil, append-nil) (sym same))
shown-parts t u (part ∷ parts) (x, first, rest) =
    let others = shown-parts x u parts rest in (
      IsUtf8-append part (concat parts) first.0 others.0,
      others.1
          ∙ ap (λ s. s ++ text_of (concat parts)) first.1
          ∙ append_assoc t (text_of part) (text_of (concat parts))
          ∙ ap (λ s. t ++ s) (sym (chars-append part (concat parts) first.0)),
    )

-- from an empty text, it is just what was written
pub shown-whole : (t u bytes : List ℕ) → t ≡ [] → WritesInCalls AppendsUtf8 t bytes u → IsUtf8 bytes × (u ≡ text_of bytes)
shown-whole t u bytes empty writes =
    let all = subst (λ b. AppendsUtf8 t b u) writes.whole (shown-parts t u writes.parts writes.calls) in
    (all.0, all.1 ∙ ap (λ s. s ++ text_of bytes) empty)

-- so that is appended
pub shown-pushed : {E : Type 0} (g : Growth) (v w : PlacedText) (t u : List ℕ) (o : Option (List ℕ))
    (r : Result (Unit {0}) E)
    → WritesText AppendsUtf8 t o u → t ≡ [] → OnOk r (w.text ≡ v.text ++ u)
    → OnOk r (PlacedFor g v w (room_to_append (size u))) → OnErr r (w ≡ v) → PushesOutput g v o r w
shown-pushed g v w t u None (Ok done) writes empty pushed placed same =
    record { text = tt; bytes = tt; place = tt; err = tt }
shown-pushed g v w t u (Some shown) (Ok done) writes empty pushed placed same =
    let whole = shown-whole t u shown empty writes in
    let text = pushed ∙ ap (λ s. v.text ++ s) whole.1 in
    record {
      text = text;
      place = subst (λ n. PlacedFor g v w (room_to_append n)) (ap size whole.1 ∙ size-text_of shown whole.0) placed;
      bytes = ap utf8 text ∙ encodes-append v.text (text_of shown)
          ∙ ap (λ bytes. utf8 v.text ++ bytes) (encodes-chars shown whole.0);
      err = tt;
    }
shown-pushed g v w t u o (Err error) writes empty pushed placed same =
    record { text = tt; bytes = tt; place = tt; err = same }
