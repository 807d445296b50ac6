use Rattle.lalrpop_lexer_nfa.specs.Paths.{nfa_view}
use Rattle.lalrpop_lexer_nfa.proofs.NfaLemmas.{inside_of}
use Rattle.lalrpop_lexer_nfa.proofs.GraphLemmas.{IsBranch-new, IsNewState-no_leads}
use Rattle.lalrpop_lexer_nfa.proofs.automaton.Nfa.new_branch.Goals as goal

pub push_noops-requires-clause-none : goal.push_noops-requires-clause-none
push_noops-requires-clause-none c =
    IsNewState-no_leads _ (nfa_view c.new_state.new.self) _ (inside_of c.args.self.now) c.in_ok-state.ensures.state

pub returns : goal.returns
returns c = IsBranch-new _ (nfa_view c.new_state.new.self) _ _ _ (inside_of c.args.self.now) c.in_ok-state.ensures.state
    c.in_ok-push_noops.ensures
