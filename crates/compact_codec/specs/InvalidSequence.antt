-- Errors of UTF-8: the longest valid prefix and the invalid sequence after it (Unicode Standard, 3.9, D93a and D93b).
use Rattle.std.specs.Prelude.{◌≡◌, ◌↔◌, ◌⊎◌, ℕ, ◌<◌, ◌≤◌, List, ◌++◌, length, take, drop, Option, IsNone, Result, IsOk}
use Rattle.std.specs.Prelude.{IfOk, IfErr, OnErr, unwrap_or}
use denote.Ref.{Bor}
use Rattle.std.specs.Str.{IsUtf8}
use Rattle.std.specs.Str.Lossy.{utf8_valid_len, utf8_error_len}
use Rattle.compact_codec.specs.declared.utf8.Utf8Error.{Utf8Error}
use Rattle.compact_codec.specs.Utf8Table.{IsWellFormedSequence}

-- the first n bytes encode a text, and no longer prefix does
pub record IsLongestValidPrefix (bs : List ℕ) (n : ℕ) : Type 0 where
  pub within : n ≤ length bs
  pub prefix : IsUtf8 (take n bs)
  pub longest : (m : ℕ) → n < m → m ≤ length bs → ¬ (IsUtf8 (take m bs))

-- the bytes begin a well-formed sequence, or are one
abbrev pub IsPrefixOfSequence : List ℕ → Type 0
IsPrefixOfSequence bs = (more : List ℕ) × IsWellFormedSequence (bs ++ more)

-- no well-formed sequence is at the start (an unconvertible offset, D93a)
abbrev pub IsUnconvertible : List ℕ → Type 0
IsUnconvertible bs = (n : ℕ) → ¬ (IsWellFormedSequence (take n bs))

-- the first n bytes are a maximal subpart (D93b): the longest run that begins a well-formed sequence, or one byte if
-- none does
pub record IsMaximalSubpart (bs : List ℕ) (n : ℕ) : Type 0 where
  pub some : 1 ≤ n
  pub within : n ≤ length bs
  pub unconvertible : IsUnconvertible bs
  pub begins : (n ≡ 1) ⊎ IsPrefixOfSequence (take n bs)
  pub longest : (m : ℕ) → n < m → m ≤ length bs → ¬ (IsPrefixOfSequence (take m bs))

-- the length of the invalid sequence at the start: None if it is all bytes, and more could complete it
abbrev pub IsErrorLen : List ℕ → Option ℕ → Type 0
IsErrorLen bs error_len =
    IsMaximalSubpart bs (unwrap_or error_len (length bs)) × (IsNone error_len ↔ IsPrefixOfSequence bs)

-- an invalid sequence of this length follows the longest valid prefix, which is not all bytes
abbrev pub IsUtf8Error : List ℕ → ℕ → Option ℕ → Type 0
IsUtf8Error bs valid_up_to error_len =
    IsLongestValidPrefix bs valid_up_to × IsErrorLen (drop valid_up_to bs) error_len

-- the result of validation: the text, or the error
pub record Validates (bs : List ℕ) (r : Result (Bor (List ℕ)) Utf8Error) : Type 0 where
  pub exact : IsOk r ↔ IsUtf8 bs
  pub text : IfOk r (λ text. (text.now ≡ bs) × IsUtf8 bs)
  pub error : IfErr r (λ error. IsUtf8Error bs error.valid_up_to error.error_len)
  pub invalid : OnErr r (¬ (IsUtf8 bs))

-- invalid bytes have exactly one error: the position and the length that std specifies
abbrev pub Utf8ErrorIsUnique : Type 0
Utf8ErrorIsUnique = (bs : List ℕ) (valid_up_to : ℕ) (error_len : Option ℕ) → ¬ (IsUtf8 bs)
    → IsUtf8Error bs valid_up_to error_len
    ↔ ((valid_up_to ≡ utf8_valid_len bs) × (error_len ≡ utf8_error_len (drop valid_up_to bs)))
