use Rattle.lalrpop_grammar_symbols.specs.Views.{terminal_view}
use Rattle.lalrpop_lr1_paths.specs.WantedGoals.{AreGoalsOf}
use Rattle.lalrpop_lr1_paths.proofs.completions.wanted_steps.begin_goals.Given as goal

abbrev pub invariant-loop-number : goal.invariant-loop-number
invariant-loop-number l =
    AreGoalsOf l.any l.begins.trees.now.table (terminal_view l.terminal) l.any.ways.now.steps.items l.found.numbers.items
    l.found.goals.items
    l.number
