use Rattle.std.proofs.Common.{inr}
use Rattle.lalrpop_lane_report.specs.Backtraces.{to_given}
use Rattle.lalrpop_lane_report.specs.TraceNodes.{graph_node_of, label_of_item, nonterminal_node}
use Rattle.lalrpop_lr1_tests.proofs.traces.shift_graph.Goals as goal

pub returns : goal.returns
returns g c =
    (c.in-Ok.ensures.nodes (graph_node_of c.args.item)).1
    (inr (nonterminal_node c.args.item.production.now.nonterminal, label_of_item c.args.item, to_given))
