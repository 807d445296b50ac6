use Rattle.std.proofs.Common.{◌≡◌, ◌-◌, ◌^◌, take, map, min}
use Rattle.lalrpop_grammar.specs.Trees.{trees}
use Rattle.lalrpop_grammar.specs.Walks.{open_in}
use Rattle.lalrpop_grammar.specs.Views.{tree_view}
use Rattle.lalrpop_grammar.proofs.WalkLemmas.{steps_in}
use Rattle.lalrpop_grammar.proofs.walk.+lists_open.Given as goal

abbrev pub decreases-lists_open : goal.decreases-lists_open
decreases-lists_open l = steps_in (trees (map tree_view l.list.now))

abbrev pub invariant-loop-tree : goal.invariant-loop-tree
invariant-loop-tree l = l.most ≡ min (open_in (trees (map tree_view (take l.tree-index l.list)))) (2 ^ 64 - 1)
