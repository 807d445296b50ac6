use Rattle.std.proofs.Common.{◌∙◌, arith}
use Rattle.lalrpop_lexer_nfa.specs.Paths.{nfa_view}
use Rattle.lalrpop_lexer_nfa.proofs.GrowthLemmas.{MayComeNext-fresh}
use Rattle.lalrpop_lexer_nfa.proofs.NfaLemmas.{inside_of}
use Rattle.lalrpop_lexer_nfa.proofs.GraphLemmas.{IsReader-new, IsReader-same, IsNewState-no_tests}
use Rattle.lalrpop_lexer_nfa.proofs.automaton.Nfa.new_reader.Goals as goal

pub push_tests-requires-clause-none : goal.push_tests-requires-clause-none
push_tests-requires-clause-none c =
    IsNewState-no_tests _ (nfa_view c.new_state.new.self) _ (inside_of c.args.self.now) c.in_ok-state.ensures.state

pub push_other-requires-clause-last : goal.push_other-requires-clause-last
push_other-requires-clause-last c =
    MayComeNext-fresh c.args.self.now.edges.other_edges.items _ _ _ (c.in_ok-push_tests.ensures.others ∙ c.in_ok-state.ensures.others)
    c.args.self.now.others_inside
    (omega (arith, c.in_ok-state.ensures.state.is))

pub returns : goal.returns
returns c =
    IsReader-same _ (nfa_view c.push_tests.new.self) _ _ _ _
    (IsReader-new _ (nfa_view c.new_state.new.self) _ _ _ _ (inside_of c.args.self.now) c.in_ok-state.ensures.state
    c.in_ok-push_tests.ensures.tests)
    c.in_ok-push_other.ensures.same
