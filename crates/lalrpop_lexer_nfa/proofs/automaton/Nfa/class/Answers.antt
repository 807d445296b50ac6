use Rattle.lalrpop_lexer_nfa.proofs.GraphLemmas.{IsFragment-reader}
use Rattle.lalrpop_lexer_nfa.proofs.automaton.Nfa.class.Goals as goal

pub returns : goal.returns
returns c = IsFragment-reader _ _ _ _ _ c.in_ok-state.ensures
