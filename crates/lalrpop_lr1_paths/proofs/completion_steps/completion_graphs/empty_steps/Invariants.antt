use Rattle.lalrpop_grammar_repr.specs.declared.grammar.Grammar.{Grammar}
use Rattle.lalrpop_lr1_first.specs.FirstSetsOf.{IsProductionOf}
use Rattle.lalrpop_lr1_first.specs.NumberedGrammars.{IsNumberTableOf}
use Rattle.lalrpop_lr1_paths.proofs.StepEdgeLemmas.{AreFirstEmpty, AreListedSteps}
use Rattle.lalrpop_lr1_paths.proofs.completion_steps.completion_graphs.empty_steps.Given as goal

abbrev pub invariant-loop-number : goal.invariant-loop-number
invariant-loop-number l =
    AreListedSteps l.steps l.listed
    × ((g : Grammar) → IsNumberTableOf g l.paths.trees.now.table → AreFirstEmpty (IsProductionOf g) l.steps l.number l.listed)
