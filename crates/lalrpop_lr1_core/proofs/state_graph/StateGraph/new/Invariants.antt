use Rattle.std.proofs.Common.{◌≡◌, take}
use Rattle.lalrpop_lr1_core.specs.Edges.{edges_of}
use Rattle.lalrpop_lr1_core.proofs.state_graph.StateGraph.new.Given as goal

abbrev pub invariant-loop-source : goal.invariant-loop-source
invariant-loop-source g l = l.edges ≡ edges_of (take l.source l.states)
