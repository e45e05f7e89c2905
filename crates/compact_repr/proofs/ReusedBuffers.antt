-- Strings whose buffer is reused.
use Rattle.std.proofs.Common.{◌≡◌, length}
use Rattle.std.specs.Prelude.{string_bytes}
use Rattle.std.specs.declared.string.String.{String}
use Rattle.std.proofs.lemmas.Str.{IsUtf8-string_bytes}
use Rattle.compact_text.specs.Text.{size, text_of}
use Rattle.compact_text.proofs.Texts.{size-text_of}

pub size-string : {Z : Type 0} (s : String Z) → size (text_of (string_bytes s)) ≡ length (string_bytes s)
size-string s = size-text_of (string_bytes s) (IsUtf8-string_bytes s)
