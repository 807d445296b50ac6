use Rattle.std.proofs.Common.{◌≡◌, ◌++◌, map}
use Rattle.lalrpop_lr1_core.specs.Edges.{goto_edge}
use Rattle.lalrpop_lr1_core.proofs.state_graph.add_goto_edges.Given as goal

abbrev pub invariant-loop-name : goal.invariant-loop-name
invariant-loop-name l =
    l.edges ++ map (goto_edge l.source) l.name-iterator ≡ l.initial.edges ++ map (goto_edge l.source) l.gotos
