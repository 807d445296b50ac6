use Rattle.std.proofs.Common.{map, take}
use Rattle.lalrpop_grammar_repr.specs.declared.grammar.Grammar.{Grammar}
use Rattle.lalrpop_lr1_core.specs.Views.{production_symbol_view}
use Rattle.lalrpop_lr1_first.specs.FirstSetsOf.{IsProductionOf}
use Rattle.lalrpop_lr1_first.specs.NumberedGrammars.{IsNumberTableOf}
use Rattle.lalrpop_lr1_least_trees.specs.RestForests.{IsRestCount, LeavesOfKind}
use Rattle.lalrpop_lr1_least_trees.proofs.rest_trees.rest.sum_of_counts.Given as goal

abbrev pub invariant-loop-symbol : goal.invariant-loop-symbol
invariant-loop-symbol l =
    (g : Grammar) → IsNumberTableOf g l.trees.table →
    IsRestCount (IsProductionOf g) (map production_symbol_view (take l.symbol-index l.symbols)) (LeavesOfKind l.leaves) l.count
