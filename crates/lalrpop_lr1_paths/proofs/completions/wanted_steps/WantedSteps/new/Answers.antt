use Rattle.std.proofs.Common.{◌∙◌, ap, subst, sym}
use Rattle.lalrpop_grammar_symbols.specs.Views.{terminal_view}
use Rattle.lalrpop_lr1_least_trees.specs.BeginForests.{IsWanted}
use Rattle.lalrpop_lr1_least_trees.specs.GrammarTrees.{symbols_by}
use Rattle.lalrpop_lr1_paths.specs.WantedGoals.{AreBeginGoals}
use Rattle.lalrpop_lr1_paths.proofs.WantedLemmas.{steps_made}
use Rattle.lalrpop_lr1_paths.proofs.completions.wanted_steps.WantedSteps.new.Goals as goal

pub returns-clause-steps : goal.returns-clause-steps
returns-clause-steps c =
    let begins = c.in_ok-begins.begins in
    let copy = sym c.in_ok-terminal.ensures in
    steps_made c.args.any c.in_ok-terminal.terminal begins c.in_ok-found.found c.trees.result.now c.requires c.in_ok-begins.ensures.begins
    c.in_ok-begins.ensures.trees (c.trees.ensures ∙ ap (λ p. p.trees.now) c.paths.ensures)
    (subst (λ t. IsWanted (symbols_by c.trees.result.now.table) (terminal_view t) begins.wanted) copy c.in_ok-begins.ensures.wanted)
    (subst (λ t. AreBeginGoals c.args.any.now begins.trees.now.table (terminal_view t) c.in_ok-found.found) copy c.in_ok-found.ensures)
