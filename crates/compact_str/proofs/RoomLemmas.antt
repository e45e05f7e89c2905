-- Room and bytes after an append.
use Rattle.std.proofs.Common.{◌≡◌, Some, ℕ, ◌≤◌, List, [], ◌∷◌, ◌++◌, ap, ◌∙◌, arith, append-nil}
use Rattle.std.proofs.lemmas.Grind.{common_steps}
use Rattle.std.proofs.lemmas.Str.{encodes-append, encodes-chars}
use Rattle.std.specs.Char.{encode_utf8}
use Rattle.std.specs.Str.{IsUtf8}
use Rattle.compact_repr.specs.Text.{size, utf8, text_of}
use Rattle.compact_repr.specs.Value.{PlacedText}
use Rattle.compact_repr.specs.Capacity.{Growth, Need, room, room_to_append, PlacedFor}
use Rattle.compact_repr.specs.Calls.{push_str}
use Rattle.compact_repr.proofs.PlacementLemmas.{edited-place}
use Rattle.compact_str.specs.Room.{infallible_capacity}

-- the infallible capacity never gets lower
pub placed-infallible : (g : Growth) (v w : PlacedText) (need : Need) → PlacedFor g v w need
    → infallible_capacity v ≤ infallible_capacity w
placed-infallible g v w need e = grind (arith, common_steps)

pub push_str-infallible : (g : Growth) (v w : PlacedText) (s : List ℕ) → push_str g v s ≡ Some w
    → infallible_capacity v ≤ infallible_capacity w
push_str-infallible g v w s e = placed-infallible g v w (room_to_append (size s)) (edited-place g v w _ _ e)

pub append-infallible : (g : Growth) (v w : PlacedText) (n : ℕ) → PlacedFor g v w (room_to_append n)
    → infallible_capacity v ≤ infallible_capacity w
append-infallible g v w n e = placed-infallible g v w (room_to_append n) e

pub room-infallible : (g : Growth) (v w : PlacedText) (n : ℕ) → PlacedFor g v w (room n)
    → infallible_capacity v ≤ infallible_capacity w
room-infallible g v w n e = placed-infallible g v w (room n) e

-- the bytes appended follow the others
pub appended-bytes : (t old bytes : List ℕ) → t ≡ old ++ text_of bytes → IsUtf8 bytes → utf8 t ≡ utf8 old ++ bytes
appended-bytes t old bytes e u = ap utf8 e ∙ encodes-append old (text_of bytes)
    ∙ ap (λ (x : List ℕ). utf8 old ++ x) (encodes-chars bytes u)

pub pushed-bytes : (t old : List ℕ) (c : ℕ) → t ≡ old ++ c ∷ [] → utf8 t ≡ utf8 old ++ encode_utf8 c
pushed-bytes t old c e = ap utf8 e ∙ encodes-append old (c ∷ []) ∙ ap (λ x. utf8 old ++ x) (append-nil (encode_utf8 c))
