use Rattle.std.proofs.Common.{arith, ◌≡◌, ◌+◌, ◌++◌, drop}
use Rattle.std.specs.Char.{encode_utf8}
use Rattle.std.proofs.lemmas.Str.{IsUtf8-past_char}
use Rattle.std.proofs.lemmas.Grind.{common_steps}
use Rattle.compact_text.proofs.slices.retain_chars.char_from.Goals as goal

pub returns-then-byte-lt128-clause-rest : goal.returns-then-byte-lt128-clause-rest
returns-then-byte-lt128-clause-rest c =
    let e : drop c.args.at c.args.slice.now ≡ encode_utf8 c.from.result ++ drop (c.args.at + 1) c.args.slice.now =
    grind (arith, common_steps) in
    IsUtf8-past_char _ _ c.from.result c.requires.utf8 e
