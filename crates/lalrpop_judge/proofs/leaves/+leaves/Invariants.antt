use Rattle.std.proofs.Common.{◌≡◌, ◌↔◌, List, ◌++◌, map, drop}
use Rattle.lalrpop_grammar.specs.Trees.{Token, leaves_of, trees}
use Rattle.lalrpop_grammar.specs.Views.{token_view, tree_view}
use Rattle.lalrpop_judge.proofs.leaves.+leaves.Given as goal

-- what is left of the tokens stands against what is left of the trees
abbrev pub invariant-end_of_all-loop-tree : goal.invariant-end_of_all-loop-tree
invariant-end_of_all-loop-tree l = (r : List Token)
    → (drop l.start (map token_view l.tokens) ≡ leaves_of (trees (map tree_view l.trees)) ++ r)
    ↔ (drop l.place (map token_view l.tokens) ≡ leaves_of (trees (map tree_view (drop l.tree-index l.trees))) ++ r)
