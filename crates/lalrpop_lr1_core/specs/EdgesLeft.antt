-- What the iterators over the graph of states have still to give.
use Rattle.std.specs.Prelude.{List, take}
use Rattle.lalrpop_lr1_core.specs.Edges.{sources_of, targets_of}
use Rattle.lalrpop_lr1_core.specs.declared.state_graph.Predecessors.{Predecessors}
use Rattle.lalrpop_lr1_core.specs.declared.state_graph.Successors.{Successors}
use Rattle.lalrpop_lr1_core.specs.declared.state_index.StateIndex.{StateIndex}

abbrev pub successors_left : Successors → List StateIndex
successors_left it = targets_of it.state it.edges.now

abbrev pub predecessors_left : Predecessors → List StateIndex
predecessors_left it = sources_of it.state it.symbol.now (take it.left it.graph.now)
