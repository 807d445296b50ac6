use Rattle.std.proofs.Common.{ap, map}
use Rattle.std.proofs.lemmas.Result.{on_ok_weaker}
use Rattle.lalrpop_lane_report.specs.TraceNodes.{label_view, node_view}
use Rattle.lalrpop_lane_report.specs.Tracings.{pair_asked}
use Rattle.lalrpop_lane_report.proofs.DrawLemmas.{given_begins, labels_are, whole_begins}
use Rattle.lalrpop_lane_report.proofs.traces.tracer.draw_from.Goals as goal

pub draw_all-requires-clause-whole : goal.draw_all-requires-clause-whole
draw_all-requires-clause-whole c =
    let drawn = c.in_ok-add_edge.ensures.added in
    whole_begins c.args.graph.now c.add_edge.new.self (node_view drawn.0) (node_view drawn.1) (label_view c.symbol_sets-labels.result)
    c.requires.graph drawn.4

pub returns : goal.returns
returns c =
    let item = c.args.item in
    let drawn = c.in_ok-add_edge.ensures.added in
    on_ok_weaker c.draw_all.result
    (λ all. λ by suits.
    all by suits c.args.state.0 item
    (given_begins c.args.ground.now.states.now by c.args.state.0 item (map pair_asked c.args.visited.now.keys)
    (map pair_asked c.visit_begins.new.visited.keys) c.args.graph.now c.add_edge.new.self (ap (map pair_asked) c.requires.visited) c.requires.graph
    (node_view drawn.0) (node_view drawn.1) c.in_ok-from.from (label_view c.symbol_sets-labels.result) drawn.2 c.in_ok-from.ensures drawn.3
    (labels_are c.symbol_sets-labels.result item c.symbol_sets-labels.ensures.prefix c.symbol_sets-labels.ensures.cursor
    c.symbol_sets-labels.ensures.suffix) drawn.4 c.symbol_sets-labels.result.prefix.now c.symbol_sets-labels.ensures.prefix
    c.in_ok-visit_begins.ensures)) c.draw_all.ensures
