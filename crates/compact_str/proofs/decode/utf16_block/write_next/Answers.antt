use Rattle.std.proofs.Common.{◌≡◌, ◌+◌, ◌∷◌, ◌++◌, ◌∙◌, ap, arith, rules, refl, sym, take, drop, IsUtf8}
use Rattle.std.specs.Char.{IsScalar}
use Rattle.compact_repr.specs.Text.{text_of}
use Rattle.compact_codec.specs.Utf16Text.{utf16_lossy_text}
use Rattle.compact_str.proofs.CharacterWrites.{character_after, unit_at}
use Rattle.compact_str.proofs.decode.utf16_block.write_next.Given.{Over}
use Rattle.compact_str.proofs.decode.utf16_block.write_next.Goals as goal

unit_written : (g : Over) (c : goal.After-write_unit-end g)
    → (text_of (take c.write_unit-end.result c.write_unit-end.new.buffer) ++ utf16_lossy_text
    (drop (c.args.at + 1) (g.U.Units.units c.args.units))
    ≡ text_of (take c.args.len c.args.buffer.now) ++ utf16_lossy_text (drop c.args.at (g.U.Units.units c.args.units)))
    × IsUtf8 (take c.write_unit-end.result c.write_unit-end.new.buffer)
unit_written g c =
    let units = g.U.Units.units c.args.units in
    let begins = unit_at units c.args.at _ c.requires.some c.unit-unit.ensures (omega (arith, c.unit-unit.type_inv))
    (sym c.is_surrogate.ensures ∙ c.if-not-is_surrogate.true) in
    character_after _ _ _ _ _ _ refl begins.0 c.write_unit-end.ensures.bytes c.requires.utf8 begins.1

pub returns-then-not-is_surrogate-clause-utf8 : goal.returns-then-not-is_surrogate-clause-utf8
returns-then-not-is_surrogate-clause-utf8 g c = (unit_written g c).1

pub returns-then-not-is_surrogate-clause-text : goal.returns-then-not-is_surrogate-clause-text
returns-then-not-is_surrogate-clause-text g c = (unit_written g c).0

character_written : (g : Over) (c : goal.After-write_character-end g)
    → (text_of (take c.write_character-end.result c.write_character-end.new.buffer)
    ++ utf16_lossy_text (drop (c.args.at + c.character_at-step.result.taken) (g.U.Units.units c.args.units))
    ≡ text_of (take c.args.len c.args.buffer.now) ++ utf16_lossy_text (drop c.args.at (g.U.Units.units c.args.units)))
    × IsUtf8 (take c.write_character-end.result c.write_character-end.new.buffer)
character_written g c =
    let scalar : IsScalar c.unwrap_or-character.result = search rules in
    let begins = c.character_at-step.ensures.lossy
    ∙ ap (λ d. d ∷ utf16_lossy_text (drop (c.args.at + c.character_at-step.result.taken)
    (g.U.Units.units c.args.units)))
    (sym c.unwrap_or-character.ensures) in
    character_after _ _ _ _ _ _ refl begins c.write_character-end.ensures.bytes c.requires.utf8 scalar

pub returns-clause-utf8 : goal.returns-clause-utf8
returns-clause-utf8 g c = (character_written g c).1

pub returns-clause-text : goal.returns-clause-text
returns-clause-text g c = (character_written g c).0
