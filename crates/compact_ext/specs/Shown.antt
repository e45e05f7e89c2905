-- Conversions of values to a text.
use Rattle.std.specs.Prelude.{◌≡◌, ℕ, List, Bool, Result, IfOk, IfErr, OnErr, IsOk, ◌<◌, if◌then◌else◌, codes, ⊤}
use Rattle.compact_str.specs.Text.{size}
use Rattle.compact_str.specs.Value.{PlacedText}
use Rattle.compact_str.specs.Words.{INLINE_CAPACITY, IsPlacedAsNew, inline_placement, standard_growth}
use Rattle.std.specs.declared.io.ErrorKind.{ErrorKind}
use Rattle.std.specs.declared.io.ErrorKind.TheVariants.{OutOfMemory, Other}
use Rattle.compact_ext.specs.declared.format.ToCompactStringError.{ToCompactStringError}
use Rattle.compact_ext.specs.declared.format.ToCompactStringError.TheVariants.{Reserve, Fmt}

-- allocation failed
abbrev pub IsFormatReserve : ToCompactStringError → Type 0
IsFormatReserve (Reserve _) = ⊤
IsFormatReserve (Fmt _) = ⊥

-- the kind of the `io::Error` that the error becomes
abbrev pub format_error_kind : ToCompactStringError → ErrorKind
format_error_kind (Reserve _) = OutOfMemory
format_error_kind (Fmt _) = Other

-- r is a conversion to the text t, as `ToCompactString::to_compact_string` spells it out
pub record Converts (t : List ℕ) (IsShort : Type 0) (r : Result PlacedText ToCompactStringError) : Type 0 where
  pub text : IfOk r (λ v. v.text ≡ t)
  pub place : IfOk r (IsPlacedAsNew standard_growth)
  pub inline : IsShort → IfOk r (λ v. v.placement ≡ inline_placement)
  pub succeeds : IsShort → IsOk r
  pub allocates : OnErr r (INLINE_CAPACITY < size t)
  pub err : IfErr r IsFormatReserve

-- the text of a `bool`
abbrev pub bool_text : Bool → List ℕ
bool_text b = if b then codes "true" else codes "false"
