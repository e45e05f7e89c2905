use Rattle.std.proofs.Common.{rules, ◌∙◌, IfOk}
use Rattle.std.specs.Char.{IsScalar}
use Rattle.compact_lines.proofs.WordLemmas.{character-parsed}
use Rattle.compact_lines.proofs.command.character.Goals as goal

pub returns : goal.returns
returns c =
    let scalar : IfOk c.parse.result IsScalar = search rules in
    c.ok.ensures.value ∙ character-parsed c.args.text.now c.parse.result c.utf8.text scalar c.parse.ensures.value
