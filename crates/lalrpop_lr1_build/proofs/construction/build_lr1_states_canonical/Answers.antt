use Rattle.std.proofs.Common.{ℕ, true, List, Contains, Global, Vec, map}
use Rattle.std.proofs.lemmas.Result.{IfErr-weaker, IfOk-weaker, MatchResult-from_both}
use Rattle.lalrpop_lr1_theory.specs.Answers.{IsLr1}
use Rattle.lalrpop_lr1_theory.specs.CheckedStates.{AreCheckedStates}
use Rattle.lalrpop_lr1_core.specs.Conflicts.{token_conflicts}
use Rattle.lalrpop_lr1_core.specs.Views.{lr_state_view, token_lookahead}
use Rattle.lalrpop_lr1_core.specs.declared.state.State.{State}
use Rattle.lalrpop_lr1_core.specs.declared.table_fault.TableFault.{TableFault}
use Rattle.lalrpop_lr1_build.specs.Nexts.{IsNextIn}
use Rattle.lalrpop_lr1_build.specs.BuiltStates.{AreCanonicalWithout, HaveNoConflictBuilt, IsCanonicalFault, IsFaultBuilt, TellsNoLr1}
use Rattle.lalrpop_lr1_core.specs.TheoryGrammars.{theory_grammar}
use Rattle.lalrpop_lr1_build.proofs.AnswerLemmas.{canonical_fault, canonical_states, fault_tells}
use Rattle.lalrpop_lr1_build.proofs.Lr1Lemmas.{built_checked, built_lr1}
use Rattle.lalrpop_lr1_build.proofs.construction.build_lr1_states_canonical.Goals as goal

pub returns-clause-states : goal.returns-clause-states
returns-clause-states c =
    let grammar = c.args.grammar.now in
    let end = c.in_ok-end.end in
    IfOk-weaker c.build_states.result (λ (states : Vec (State (List ℕ)) Global). HaveNoConflictBuilt (λ (set : List ℕ). set)
    (token_lookahead grammar.terminals) true
    (IsNextIn grammar.terminals end) grammar c.args.start (token_conflicts grammar.terminals) states.items)
    (λ (states : Vec (State (List ℕ)) Global). AreCanonicalWithout grammar c.args.start states.items)
    (λ states h. canonical_states grammar c.requires c.args.start end c.in_ok-end.ensures states.items h) c.build_states.ensures.states

pub returns-clause-fault : goal.returns-clause-fault
returns-clause-fault c =
    let grammar = c.args.grammar.now in
    let end = c.in_ok-end.end in
    IfErr-weaker c.build_states.result (λ (fault : TableFault (List ℕ)). IsFaultBuilt (λ (set : List ℕ). set)
    (token_lookahead grammar.terminals) true
    (IsNextIn grammar.terminals end) grammar c.args.start (token_conflicts grammar.terminals) fault)
    (λ (fault : TableFault (List ℕ)). IsCanonicalFault grammar c.args.start fault)
    (λ fault h. canonical_fault grammar c.requires c.args.start end c.in_ok-end.ensures fault h) c.build_states.ensures.fault

pub returns-clause-lr1 : goal.returns-clause-lr1
returns-clause-lr1 c = λ nb.
    let grammar = c.args.grammar.now in
    let end = c.in_ok-end.end in
    MatchResult-from_both c.build_states.result
    (λ (states : Vec (State (List ℕ)) Global). IsLr1 (Contains (theory_grammar grammar)) c.args.start.0)
    (λ (fault : TableFault (List ℕ)). TellsNoLr1 grammar c.args.start fault)
    (IfOk-weaker c.build_states.result (λ (states : Vec (State (List ℕ)) Global). HaveNoConflictBuilt (λ (set : List ℕ). set)
    (token_lookahead grammar.terminals) true
    (IsNextIn grammar.terminals end) grammar c.args.start (token_conflicts grammar.terminals) states.items)
    (λ (states : Vec (State (List ℕ)) Global). IsLr1 (Contains (theory_grammar grammar)) c.args.start.0)
    (λ states h. let w = canonical_states grammar c.requires c.args.start end c.in_ok-end.ensures states.items h in
    built_lr1 grammar c.requires c.args.start states.items w.states_are nb w.none) c.build_states.ensures.states)
    (IfErr-weaker c.build_states.result (λ (fault : TableFault (List ℕ)). IsFaultBuilt (λ (set : List ℕ). set)
    (token_lookahead grammar.terminals) true
    (IsNextIn grammar.terminals end) grammar c.args.start (token_conflicts grammar.terminals) fault)
    (λ (fault : TableFault (List ℕ)). TellsNoLr1 grammar c.args.start fault)
    (λ fault h. fault_tells grammar c.requires c.args.start nb fault
    (canonical_fault grammar c.requires c.args.start end c.in_ok-end.ensures fault h)) c.build_states.ensures.fault)

pub returns-clause-checked : goal.returns-clause-checked
returns-clause-checked c = λ nb alone.
    let grammar = c.args.grammar.now in
    let end = c.in_ok-end.end in
    IfOk-weaker c.build_states.result (λ (states : Vec (State (List ℕ)) Global). HaveNoConflictBuilt (λ (set : List ℕ). set)
    (token_lookahead grammar.terminals) true
    (IsNextIn grammar.terminals end) grammar c.args.start (token_conflicts grammar.terminals) states.items)
    (λ (states : Vec (State (List ℕ)) Global). AreCheckedStates (theory_grammar grammar) c.args.start.0
    (map (lr_state_view (token_lookahead grammar.terminals)) states.items))
    (λ states h. let w = canonical_states grammar c.requires c.args.start end c.in_ok-end.ensures states.items h in
    built_checked grammar c.requires c.args.start states.items w.states_are nb alone w.none) c.build_states.ensures.states
