use Rattle.std.proofs.Common.{◌*◌, length, take}
use Rattle.lalrpop_grammar_repr.specs.declared.grammar.Grammar.{Grammar}
use Rattle.lalrpop_lr1_first.specs.FirstNumbers.{name_count}
use Rattle.lalrpop_lr1_first.specs.FirstSetsOf.{IsProductionOf}
use Rattle.lalrpop_lr1_first.specs.NumberedGrammars.{IsNumberTableOf}
use Rattle.lalrpop_lr1_paths.specs.CompletionSteps.{StepsAreBelow}
use Rattle.lalrpop_lr1_paths.specs.ToldSteps.{AreStepsOfStates}
use Rattle.lalrpop_lr1_paths.proofs.completion_steps.steps_of_states.steps_of_states.Given as goal

abbrev pub invariant-loop-number : goal.invariant-loop-number
invariant-loop-number g l =
    StepsAreBelow (length l.states * name_count l.paths.trees.now.table) l.steps.items
    × ((it : Grammar) → IsNumberTableOf it l.paths.trees.now.table →
    AreStepsOfStates (IsProductionOf it) l.paths (length l.states) (take l.number l.states) l.steps.items)
