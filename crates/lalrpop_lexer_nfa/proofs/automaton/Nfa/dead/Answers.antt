use Rattle.lalrpop_lexer_nfa.specs.Paths.{nfa_view}
use Rattle.lalrpop_lexer_nfa.proofs.NfaLemmas.{inside_of}
use Rattle.lalrpop_lexer_nfa.proofs.GraphLemmas.{IsFragment-dead}
use Rattle.lalrpop_lexer_nfa.proofs.automaton.Nfa.dead.Goals as goal

pub returns : goal.returns
returns c = IsFragment-dead _ (nfa_view c.new_state.new.self) _ _ (inside_of c.args.self.now) c.in_ok-state.ensures.state
