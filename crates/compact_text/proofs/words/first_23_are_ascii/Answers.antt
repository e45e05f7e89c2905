use Rattle.std.proofs.Common.{◌≡◌, ◌%◌, arith}
use Rattle.std.specs.Prelude.{bit_and}
use Rattle.std.proofs.lemmas.Bool.Decides.{nat_tests}
use Rattle.compact_text.proofs.AsciiArrays.{ascii_array}
use Rattle.compact_text.proofs.words.first_23_are_ascii.Goals as goal

pub returns : goal.returns
returns c tests =
    let first : bit_and c.load8.result 9259542123273814144 ≡ 0 = grind (arith, nat_tests, tests) in
    let second : bit_and c.load8-2.result 9259542123273814144 ≡ 0 = grind (arith, nat_tests, tests) in
    let third : bit_and (c.load8-3.result % 72057594037927936) 9259542123273814144 ≡ 0 =
    grind (arith, nat_tests, tests) in
    ascii_array c.args.array.now c.load8.result c.load8-2.result c.load8-3.result (omega arith) c.load8.ensures.bytes
    c.load8-2.ensures.bytes c.load8-3.ensures.bytes first second third
