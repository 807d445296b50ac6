use Rattle.std.proofs.Common.{false, [], Global, Vec}
use Rattle.std.proofs.lemmas.Result.{IfErr-weaker, IfOk-weaker}
use Rattle.lalrpop_lr1_core.specs.Conflicts.{nil_conflicts}
use Rattle.lalrpop_lr1_core.specs.Views.{nil_lookahead}
use Rattle.lalrpop_lr1_core.specs.declared.state.State.{State}
use Rattle.lalrpop_lr1_core.specs.declared.table_fault.TableFault.{TableFault}
use Rattle.lalrpop_sets.specs.declared.nil.Nil.{Nil}
use Rattle.lalrpop_lr1_build.specs.Nexts.{IsNextIn}
use Rattle.lalrpop_lr1_build.specs.BuiltStates.{AreLr0Without, HaveNoConflictBuilt, IsFaultBuilt, IsLr0Fault}
use Rattle.lalrpop_lr1_build.proofs.AnswerLemmas.{lr0_fault, lr0_states}
use Rattle.lalrpop_lr1_build.proofs.construction.build_lr0_states.Goals as goal

pub returns-clause-states : goal.returns-clause-states
returns-clause-states c =
    let grammar = c.args.grammar.now in
    IfOk-weaker c.build_states.result (λ (states : Vec (State Nil) Global). HaveNoConflictBuilt (λ (n : Nil). []) nil_lookahead false
    (IsNextIn grammar.terminals []) grammar c.args.start nil_conflicts states.items)
    (λ (states : Vec (State Nil) Global). AreLr0Without grammar c.args.start states.items)
    (λ states h. lr0_states grammar c.args.start states.items h) c.build_states.ensures.states

pub returns-clause-fault : goal.returns-clause-fault
returns-clause-fault c =
    let grammar = c.args.grammar.now in
    IfErr-weaker c.build_states.result (λ (fault : TableFault Nil). IsFaultBuilt (λ (n : Nil). []) nil_lookahead false
    (IsNextIn grammar.terminals []) grammar c.args.start nil_conflicts fault)
    (λ (fault : TableFault Nil). IsLr0Fault grammar c.args.start fault)
    (λ fault h. lr0_fault grammar c.args.start fault h) c.build_states.ensures.fault
