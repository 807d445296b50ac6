use Rattle.std.proofs.Common.{IfOk, List, length, map, option_map, subst, sym}
use Rattle.std.proofs.lemmas.Result.{IfOk-weaker}
use Rattle.lalrpop_grammar_symbols.specs.Symbols.{Text}
use Rattle.lalrpop_grammar_symbols.specs.Views.{terminal_view}
use Rattle.lalrpop_grammar_repr.specs.declared.grammar.Grammar.{Grammar}
use Rattle.lalrpop_lr1_theory.specs.States as theory
use Rattle.lalrpop_lr1_core.specs.Views.{production_view}
use Rattle.lalrpop_lr1_least_trees.specs.MoveViews.{tree_move_view}
use Rattle.lalrpop_lr1_counterexamples.specs.ShiftPositions.{IsShiftPositionIf}
use Rattle.lalrpop_lr1_counterexamples.specs.ShownMoves.{AreSteppedStates, ShowsReduction, next_of}
use Rattle.lalrpop_lr1_counterexamples.specs.ActionMoves.{ShowsAction}
use Rattle.lalrpop_lr1_counterexamples.proofs.ActionLemmas.{shift_told}
use Rattle.lalrpop_lr1_counterexamples.proofs.action_moves.action.action_moves.Goals as goal

pub returns-in-Reduce : goal.returns-in-Reduce
returns-in-Reduce g c =
    let p = production_view c.in-Reduce.production.now in
    let front = map tree_move_view c.args.front.now in
    let x = next_of c.args.next.now in
    let told = subst (λ ways. IfOk c.with_reduction.result (λ found. (grammar : Grammar) (s : Text) (states : List theory.State) →
    AreSteppedStates grammar s states ways → theory.HasItem states c.args.number p (length p.right) →
    ShowsReduction grammar s states ways c.args.number p front x (option_map (λ moves. map tree_move_view moves.items) found)))
    c.requires.ways c.with_reduction.ensures in
    IfOk-weaker c.with_reduction.result _ _
    (λ found h grammar s look states are at. subst
    (λ action. ShowsAction grammar s states c.args.any.now.ways.now c.args.number front x action
    (option_map (λ moves. map tree_move_view moves.items) found)) (sym c.in-Reduce.is) (h grammar s states are)) told

pub returns-in-Some : goal.returns-in-Some
returns-in-Some g c =
    let front = map tree_move_view c.args.front.now in
    let x = next_of c.args.next.now in
    IfOk-weaker c.with_shift.result _ _
    (λ found h grammar s look states are at. subst
    (λ action. ShowsAction grammar s states c.args.any.now.ways.now c.args.number front x action
    (option_map (λ moves. map tree_move_view moves.items) found)) (sym c.in-Shift.is)
    (shift_told grammar s states c.args.any.now.ways.now c.args.number front (terminal_view c.in-Shift.terminal) c.in-Some.place
    (subst (IsShiftPositionIf states c.args.number (terminal_view c.in-Shift.terminal)) c.in-Some.is
    (c.shift_position.ensures look states c.args.number at)) (option_map (λ moves. map tree_move_view moves.items) found)
    (h grammar s states are))) c.with_shift.ensures
