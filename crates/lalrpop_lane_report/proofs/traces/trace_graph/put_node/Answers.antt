use Rattle.lalrpop_lane_report.proofs.KeyLemmas.{puts_node}
use Rattle.lalrpop_lane_report.proofs.traces.trace_graph.put_node.Goals as goal

pub returns-clause-added : goal.returns-clause-added
returns-clause-added c =
    puts_node c.args.nodes.now.keys c.insert_full.new.self.keys c.args.node _ c.in_ok-place.ensures.keys c.in_ok-place.ensures.stored
