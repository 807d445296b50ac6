use Rattle.std.proofs.Common.{length, refl}
use Rattle.std.proofs.lemmas.Option.{slice_get_read}
use Rattle.lalrpop_run_parser.proofs.ParseLemmas.{stop_at, stop_past}
use Rattle.lalrpop_run_parser.proofs.parsing.error_of_stop.Goals as goal

pub returns-in-Some : goal.returns-in-Some
returns-in-Some c =
    let tokens = c.args.tokens.now in
    stop_at tokens c.in-Token.place c.in-Some.token.now c.args.stop c.wrong_token.result c.in-Token.is
    (slice_get_read tokens (length tokens) c.in-Token.place c.in-Some.token.now refl c.in-Some.ensures.lookup.3.0
    c.in-Some.ensures.lookup.1)
    c.wrong_token.ensures

pub returns-in-None : goal.returns-in-None
returns-in-None c = stop_past c.args.tokens.now c.in-Token.place c.args.stop _ c.in-Token.is c.in-None.ensures.lookup.3
