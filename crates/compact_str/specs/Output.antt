-- What a formatter or a `Display` writes.
use Rattle.std.specs.Prelude.{◌≡◌, ℕ, List, ◌++◌, Option, Some, length, IfSome, Result, OnOk, OnErr}
use Rattle.std.specs.Str.{IsUtf8}
use Rattle.compact_repr.specs.Text.{text_of, utf8}
use Rattle.compact_repr.specs.Value.{PlacedText}
use Rattle.compact_repr.specs.Calls.{push_str}
use Rattle.compact_repr.specs.Capacity.{Growth, room_to_append, PlacedFor}
use Rattle.std.specs.Fmt.{AppendsText}

-- a formatter writes valid bytes; v with these appended is w
pub record Writes (g : Growth) (v : PlacedText) (bytes : List ℕ) (w : PlacedText) : Type 0 where
  pub is_text : IsUtf8 bytes
  pub value : push_str g v (text_of bytes) ≡ Some w
  pub written : utf8 w.text ≡ utf8 v.text ++ bytes

-- to a builder, a formatter writes valid bytes; t with these appended is u
abbrev pub AppendsUtf8 : List ℕ → List ℕ → List ℕ → Type 0
AppendsUtf8 t bytes u = IsUtf8 bytes × (u ≡ t ++ text_of bytes)

-- w is v with what a value shows appended, as by one `push_str`; on failure w is v
pub record PushesOutput {E : Type 0} (g : Growth) (v : PlacedText) (shown : Option (List ℕ)) (r : Result (Unit {0}) E)
    (w : PlacedText) : Type 0 where
  pub text : OnOk r (IfSome shown (λ s. w.text ≡ v.text ++ text_of s))
  pub bytes : OnOk r (AppendsText (utf8 v.text) (utf8 w.text) shown)
  pub place : OnOk r (IfSome shown (λ s. PlacedFor g v w (room_to_append (length s))))
  pub err : OnErr r (w ≡ v)
