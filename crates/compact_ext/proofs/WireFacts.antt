-- For crates that read and write wire forms: what the clauses of several calls imply together. Named at the caller, as
-- `#[tactic(auto, using(compact_ext::proofs::WireFacts::wire_facts))]`.
use Rattle.std.proofs.Common.{◌≡◌, ℕ, ◌+◌, ◌^◌, ◌<◌, List, [], ◌∷◌, ◌++◌, length, map, Option, None, Some, Result, Ok}
use Rattle.std.proofs.Common.{Err, IfOk, IfSome, ap, sym, ◌∙◌, append_assoc, append-nil}
use Rattle.std.specs.Global.{Vec}
use Rattle.std.specs.List.{All, flat_map}
use Rattle.std.proofs.lemmas.Grind.{flat_map-append}
use Rattle.std.specs.Io.KnownBytes.{IsAtEnd}
use Rattle.compact_str.specs.Value.{PlacedText}
use Rattle.compact_str.specs.Text.{IsText, size}
use Rattle.compact_ext.specs.declared.wire.WireError.{WireError}
use Rattle.compact_ext.specs.Wire.{wire, HasForm, ReadsBack}
use Rattle.compact_ext.specs.WireRecords.{ReadsAllBack}
pub use Rattle.std.proofs.lemmas.List.Elements.{All-nil, All-cons}
pub use Rattle.std.proofs.KnownBytes.{Appends-trans, Consumes-trans}
pub use Rattle.compact_ext.proofs.WireLemmas.{length-wire}
pub use Rattle.compact_ext.proofs.WireRecordLemmas.{next-back, passes-none, passes-text, passes-invalid, passes-all}

-- a text written to an empty buffer is read back
pub sent-back : (t none sent bytes : List ℕ) (new : Option (List ℕ)) (r : Result PlacedText WireError)
    → ReadsBack (Some bytes) new r → bytes ≡ sent → sent ≡ none ++ wire t → none ≡ []
    → IsText t → size t < 2 ^ 32 → IfOk r (λ back. back.text ≡ t)
sent-back t none sent bytes new (Err e) reads is all empty text fits = tt
sent-back t none sent bytes new (Ok w) reads is all empty text fits =
    let whole : bytes ≡ wire t ++ [] = is ∙ all ∙ ap (λ l. l ++ wire t) empty ∙ sym (append-nil (wire t)) in
    (reads.back t [] text fits (ap Some whole)).0

-- texts whose forms are all that a reader has are read back
pub all-sent-back : (texts : List (List ℕ)) (known : Option (List ℕ)) (bytes : List ℕ)
    (r : Result (Vec PlacedText) WireError) → ReadsAllBack known r → known ≡ Some bytes → bytes ≡ flat_map wire texts
    → All HasForm texts → IfOk r (λ back. map (λ v. v.text) back.items ≡ texts)
all-sent-back texts known bytes (Err e) reads is all forms = tt
all-sent-back texts known bytes (Ok back) reads is all forms = reads.back texts forms (is ∙ ap Some all)

-- a reader is at its end if `fill_buf` returns nothing
pub at-end : (known : Option (List ℕ)) (shown : List ℕ) → IfSome known (λ xs. length shown ≡ 0 → xs ≡ [])
    → length shown ≡ 0 → IsAtEnd known
at-end None shown h none = tt
at-end (Some xs) shown h none = h none

pub ruleset wire_facts = (
  Appends-trans,
  Consumes-trans,
  length-wire,
  sent-back,
  all-sent-back,
  at-end,
  append-nil,
  append_assoc,
  flat_map-append,
)

-- the same for a loop over `Records` that skips invalid texts
pub ruleset passed_text_facts = (passes-none, passes-text, passes-invalid, passes-all)
