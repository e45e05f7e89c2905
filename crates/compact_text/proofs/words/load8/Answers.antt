use Rattle.std.proofs.Common.{ℕ, take, drop, rules, arith, ◌∙◌, ap, length-drop}
use Rattle.std.proofs.lemmas.List.{length-take-le}
use Rattle.compact_text.proofs.ByteNumbers.{AllBytes-take, AllBytes-drop, word_bytes-le_number}
use Rattle.compact_text.specs.WordBytes.{word_bytes}
use Rattle.compact_text.proofs.words.load8.Goals as goal

pub returns-clause-value : goal.returns-clause-value
returns-clause-value c = search rules

pub returns-clause-bytes : goal.returns-clause-bytes
returns-clause-bytes c =
    let array = c.args.bytes.now in
    let behind = drop c.args.at array in
    let eight = length-take-le 8 behind (omega (arith, length-drop c.args.at array)) in
    ap word_bytes (returns-clause-value c) ∙ word_bytes-le_number (take 8 behind)
    (AllBytes-take 8 behind (AllBytes-drop c.args.at array (λ (i : ℕ). (c.type_inv.bytes i).fits))) eight
