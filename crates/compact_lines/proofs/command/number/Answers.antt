use Rattle.std.proofs.Common.{rules, ◌≡◌, ◌∙◌, true}
use Rattle.std.specs.List.{list_all}
use Rattle.std.specs.Char.{is_ascii_digit}
use Rattle.compact_lines.proofs.WordLemmas.{number-parsed}
use Rattle.compact_lines.proofs.command.number.Goals as goal

pub returns-then-are_digits : goal.returns-then-are_digits
returns-then-are_digits c =
    let are : list_all is_ascii_digit c.args.word.now ≡ true = search rules in
    c.ok.ensures.value ∙ number-parsed c.args.word.now c.parse.result c.parse.ensures.value.0 are
