use Rattle.lalrpop_lexer_nfa.proofs.TakenLemmas.{led_along_paths}
use Rattle.lalrpop_lexer_nfa.proofs.laws.other_edges_reject.Goals as goal

pub returns-clause-led : goal.returns-clause-led
returns-clause-led c = led_along_paths c.args.nfa.now
