use Rattle.std.proofs.Common.{◌*◌, take}
use Rattle.lalrpop_grammar_repr.specs.declared.grammar.Grammar.{Grammar}
use Rattle.lalrpop_lr1_first.specs.FirstNumbers.{name_count}
use Rattle.lalrpop_lr1_first.specs.FirstSetsOf.{IsProductionOf}
use Rattle.lalrpop_lr1_first.specs.NumberedGrammars.{IsNumberTableOf}
use Rattle.lalrpop_lr1_paths.specs.CompletionSteps.{StepsAreBelow}
use Rattle.lalrpop_lr1_paths.specs.ToldSteps.{AddsCompletionSteps}
use Rattle.lalrpop_lr1_paths.proofs.completion_steps.steps_of_states.push_steps.Given as goal

abbrev pub invariant-loop-item : goal.invariant-loop-item
invariant-loop-item g l =
    (StepsAreBelow (l.count * name_count l.paths.trees.now.table) l.initial.steps.items →
    StepsAreBelow (l.count * name_count l.paths.trees.now.table) l.steps.items)
    × ((it : Grammar) → IsNumberTableOf it l.paths.trees.now.table →
    AddsCompletionSteps (IsProductionOf it) l.paths l.count l.state (take l.item-index l.items) l.initial.steps.items l.steps.items)
