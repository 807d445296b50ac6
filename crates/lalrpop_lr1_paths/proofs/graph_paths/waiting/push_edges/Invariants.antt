use Rattle.std.proofs.Common.{heap_items, take}
use Rattle.lalrpop_lr1_paths.specs.PathSearches.{AddsEdges}
use Rattle.lalrpop_lr1_paths.proofs.graph_paths.waiting.push_edges.Given as goal

abbrev pub invariant-loop-number : goal.invariant-loop-number
invariant-loop-number l =
    AddsEdges l.edges (take l.number-index l.entering) l.rest l.rest_weight (heap_items l.initial.waiting) (heap_items l.waiting)
