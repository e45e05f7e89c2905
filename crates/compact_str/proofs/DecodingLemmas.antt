-- std's error of invalid bytes is that of the definitions.
use Rattle.std.proofs.Common.{◌≡◌, ℕ, List, drop, sym, ap, ◌∙◌}
use Rattle.std.specs.Str.{IsUtf8, valid_up_to, error_len}
use Rattle.std.specs.Str.Lossy.{utf8_valid_len, utf8_error_len}
use Rattle.std.specs.declared.str.Utf8Error.{Utf8Error}
use Rattle.compact_codec.proofs.InvalidSequenceLemmas.{error_is}
use Rattle.compact_str.specs.Decoding.{IsErrorOf}

pub std-error : (bytes : List ℕ) (e : Utf8Error) → ¬ (IsUtf8 bytes) → valid_up_to e ≡ utf8_valid_len bytes
    → error_len e ≡ utf8_error_len (drop (utf8_valid_len bytes) bytes) → IsErrorOf bytes e
std-error bytes e bad at is = record {
  error = (error_is bytes (valid_up_to e) (error_len e) bad).1
      (at, is ∙ ap (λ (k : ℕ). utf8_error_len (drop k bytes)) (sym at));
}
