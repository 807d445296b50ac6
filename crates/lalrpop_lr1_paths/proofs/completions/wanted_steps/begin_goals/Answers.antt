use Rattle.std.proofs.Common.{◌≡◌, Some, subst}
use Rattle.std.specs.Prelude.{slice_get}
use Rattle.lalrpop_grammar_symbols.specs.Views.{terminal_view}
use Rattle.lalrpop_lr1_paths.proofs.WantedLemmas.{goal_reversed}
use Rattle.lalrpop_lr1_paths.proofs.completions.wanted_steps.begin_goals.Goals as goal

pub loop-number-preserved : goal.loop-number-preserved
loop-number-preserved c =
    goal_reversed c.args.any.now c.args.begins.now.trees.now.table (terminal_view c.args.terminal.now) c.args.any.now.ways.now.steps.items
    c.loop-number.number c.step_at.result
    (subst (λ l. slice_get l c.loop-number.number ≡ Some c.step_at.result) c.steps-steps.ensures c.step_at.ensures) c.loop-number.found
    c.push_goal.new.found c.loop-number.invariant c.in_ok-push_goal.ensures
