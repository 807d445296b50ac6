use Rattle.std.proofs.Common.{arith, codes}
use Rattle.std.specs.Str.Parse.{ExplainsUnsignedError, HasUnsignedDigitsIfOk, ParsesUnsigned}
use Rattle.clap.specs.Matches.{found_of}
use Rattle.clap.specs.Lexer.{without_minus}
use Rattle.lalrpop_run_options.proofs.NumberLemmas.{number_or, signed_number}
use Rattle.lalrpop_run_options.proofs.found.macro_limit.Goals as goal

pub returns : goal.returns
returns c =
    rw c.unwrap_or.ensures (number_or (found_of c.args.matches.now) (codes "macro-limit") 200 c.get_one.result c.get_one.ensures.none
    (λ t e.
    let passed = c.requires t e in
    let read = signed_number _ (λ bs r. ParsesUnsigned 16 10 bs r × ExplainsUnsignedError 10 bs r × HasUnsignedDigitsIfOk bs r) 16 65535
    t
    c.get_one.result (c.get_one.ensures.value (without_minus t) passed.1) (λ u x g. g.0) (omega arith) passed.0 in
    (read.0, read.1, (passed.0.0, read.2))))
