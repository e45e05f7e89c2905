use Rattle.std.proofs.Common.{◌≡◌, arith}
use Rattle.std.proofs.lemmas.Bool.Decides.{nat_tests}
use Rattle.compact_text.proofs.EqualArrays.{same_arrays}
use Rattle.compact_text.proofs.words.same_array.Goals as goal

pub returns-clause-same : goal.returns-clause-same
returns-clause-same c tests =
    let first : c.load8.result ≡ c.load8-2.result = grind (arith, nat_tests, tests) in
    let second : c.load8-3.result ≡ c.load8-4.result = grind (arith, nat_tests, tests) in
    let third : c.load8-5.result ≡ c.load8-6.result = grind (arith, nat_tests, tests) in
    same_arrays c.args.array.now c.args.other.now c.load8.result c.load8-3.result c.load8-5.result c.load8-2.result
    c.load8-4.result c.load8-6.result (omega arith) (omega arith) c.load8.ensures.bytes c.load8-3.ensures.bytes
    c.load8-5.ensures.bytes c.load8-2.ensures.bytes c.load8-4.ensures.bytes c.load8-6.ensures.bytes first second
    third
