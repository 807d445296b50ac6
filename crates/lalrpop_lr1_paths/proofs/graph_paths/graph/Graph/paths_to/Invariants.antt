use Rattle.std.proofs.Common.{◌+◌, heap_items, length}
use Rattle.lalrpop_lr1_paths.specs.Graphs.{graph_edges}
use Rattle.lalrpop_lr1_paths.specs.PathSearches.{IsPathSearch, path_numbers, search_left}
use Rattle.lalrpop_lr1_paths.proofs.graph_paths.graph.Graph.paths_to.Given as goal

abbrev pub invariant-loop-entry : goal.invariant-loop-entry
invariant-loop-entry l =
    IsPathSearch (graph_edges l.self) l.goals (path_numbers l.table) l.table.paths.items (heap_items l.waiting)

abbrev pub decreases-loop-entry : goal.decreases-loop-entry
decreases-loop-entry l = search_left (graph_edges l.self) (path_numbers l.table) + length (heap_items l.waiting)
