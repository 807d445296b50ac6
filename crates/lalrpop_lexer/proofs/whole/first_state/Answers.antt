use Rattle.lalrpop_lexer_nfa.specs.Paths.{nfa_view}
use Rattle.lalrpop_lexer.proofs.KernelLemmas.{numbered_none}
use Rattle.lalrpop_lexer.proofs.whole.first_state.Goals as goal

pub number_of-requires-clause-numbered : goal.number_of-requires-clause-numbered
number_of-requires-clause-numbered c = rw (c.new-2.ensures, c.in_ok-numbers.ensures) (numbered_none (nfa_view c.args.nfa.now))

pub returns-clause-found : goal.returns-clause-found
returns-clause-found c = (_, rw c.new-2.ensures at c.in_ok-number_of.ensures.found)
