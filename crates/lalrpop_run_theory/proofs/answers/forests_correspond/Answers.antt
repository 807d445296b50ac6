use Rattle.std.proofs.Common.{Contains}
use Rattle.lalrpop_run_theory.proofs.WrittenForestLemmas.{forest_of_tree, forest_once, root_size, tree_of_forest, tree_once}
use Rattle.lalrpop_run_theory.proofs.answers.forests_correspond.Goals as goal

pub returns-clause-forests : goal.returns-clause-forests
returns-clause-forests c =
    λ finds features w prefix start grammar e i. forest_of_tree finds features w prefix (Contains grammar) e start i

pub returns-clause-admitted : goal.returns-clause-admitted
returns-clause-admitted c =
    λ finds features w prefix start grammar e i. tree_of_forest finds features w prefix (Contains grammar) e start i

pub returns-clause-one_forest : goal.returns-clause-one_forest
returns-clause-one_forest c =
    λ finds features w prefix start grammar e i. forest_once finds features w prefix (Contains grammar) e start i

pub returns-clause-one_tree : goal.returns-clause-one_tree
returns-clause-one_tree c =
    λ finds features w prefix start grammar e i. tree_once finds features w prefix (Contains grammar) e start i

pub returns-clause-sizes : goal.returns-clause-sizes
returns-clause-sizes c = λ g prefix start grammar e i. root_size g prefix (Contains grammar) e start i
