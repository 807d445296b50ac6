use Rattle.std.proofs.Common.{◌+◌, ◌*◌, ◌↔◌, map, drop}
use Rattle.lalrpop_grammar.specs.Trees.{trees}
use Rattle.lalrpop_grammar.specs.Views.{tree_view}
use Rattle.lalrpop_grammar_rules.specs.RuleTable.{rules_with}
use Rattle.lalrpop_grammar_rules.specs.Views.{closed_view}
use Rattle.lalrpop_judge.specs.Admitted.{AdmittedAll, AdmittedEach}
use Rattle.lalrpop_judge.proofs.SizeLemmas.{weight, weights}
use Rattle.lalrpop_judge.proofs.walk.+admits.Given as goal

abbrev pub decreases-admits : goal.decreases-admits
decreases-admits o l = 3 * weight (tree_view l.tree.now) + 2

abbrev pub decreases-admits_node : goal.decreases-admits_node
decreases-admits_node o l = 3 * weights (trees (map tree_view l.trees.now)) + 1

abbrev pub decreases-admits_list : goal.decreases-admits_list
decreases-admits_list o l = 3 * weights (trees (map tree_view l.trees.now)) + 1

abbrev pub decreases-admits_group : goal.decreases-admits_group
decreases-admits_group o l = 3 * weights (trees (map tree_view l.trees.now)) + 1

abbrev pub decreases-admits_all : goal.decreases-admits_all
decreases-admits_all o l = 3 * weights (trees (map tree_view l.trees.now))

abbrev pub decreases-admits_each : goal.decreases-admits_each
decreases-admits_each o l = 3 * weights (trees (map tree_view l.trees.now))

-- what is left of the symbols admits what is left of the trees
abbrev pub invariant-admits_all-loop-tree : goal.invariant-admits_all-loop-tree
invariant-admits_all-loop-tree g l =
    let r = rules_with (g.F.Finder.finds l.finder) l.rules in
    AdmittedAll r (map closed_view l.symbols) (trees (map tree_view l.trees))
    ↔ AdmittedAll r (map closed_view l.left) (trees (map tree_view (drop l.tree-index l.trees)))

abbrev pub invariant-admits_each-loop-tree : goal.invariant-admits_each-loop-tree
invariant-admits_each-loop-tree g l =
    let r = rules_with (g.F.Finder.finds l.finder) l.rules in
    AdmittedEach r (closed_view l.symbol) (trees (map tree_view l.trees))
    ↔ AdmittedEach r (closed_view l.symbol) (trees (map tree_view (drop l.tree-index l.trees)))
