use Rattle.std.proofs.Common.{map}
use Rattle.lalrpop_grammar_symbols.specs.Views.{literal_view}
use Rattle.lalrpop_grammar.specs.Views.{grammar_view}
use Rattle.lalrpop_norm_token_check.specs.KeptPlaces.{first_places}
use Rattle.lalrpop_norm_token_check.proofs.FaultLemmas.{lacking_told}
use Rattle.lalrpop_norm_token_check.proofs.telling.check_block.Goals as goal

pub returns-in_ok-try_clone-in-Some-clause-err : goal.returns-in_ok-try_clone-in-Some-clause-err
returns-in_ok-try_clone-in-Some-clause-err c = λ used.
    lacking_told (first_places c.args.places.now) (grammar_view c.args.grammar.now) (map (λ l. literal_view l.now) c.args.used.now)
    c.in_ok-found.found c.in-Some.literal c.in_ok-try_clone-in-Some.field-0 c.place_of-span.result c.in_ok-found.ensures c.in-Some.is
    c.in_ok-try_clone-in-Some.ensures c.place_of-span.ensures used
