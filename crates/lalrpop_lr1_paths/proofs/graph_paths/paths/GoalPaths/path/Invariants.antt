use Rattle.std.proofs.Common.{◌≡◌, ℕ, Some}
use Rattle.lalrpop_lr1_paths.specs.Graphs.{graph_edges}
use Rattle.lalrpop_lr1_paths.specs.PathSearches.{found_weight, path_numbers}
use Rattle.lalrpop_lr1_paths.proofs.PathLemmas.{IsOnTheWay}
use Rattle.lalrpop_lr1_paths.proofs.graph_paths.paths.GoalPaths.path.Given as goal

abbrev pub invariant-loop-goal : goal.invariant-loop-goal
invariant-loop-goal l = (weight : ℕ) × (found_weight l.self l.node ≡ Some weight) × IsOnTheWay (graph_edges l.self.graph.now)
    l.self.goals.now (path_numbers l.self.table) l.self.table.paths.items l.node weight l.edges.items l.number

abbrev pub decreases-loop-goal : goal.decreases-loop-goal
decreases-loop-goal l = l.number
