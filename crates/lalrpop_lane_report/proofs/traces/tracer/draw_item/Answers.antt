use Rattle.std.proofs.Common.{map}
use Rattle.std.proofs.lemmas.Result.{on_ok_weaker}
use Rattle.lalrpop_lane_report.specs.TraceNodes.{label_view, node_view}
use Rattle.lalrpop_lane_report.specs.Tracings.{pair_asked}
use Rattle.lalrpop_lane_report.proofs.DrawLemmas.{item_goes, item_stops, labels_are, not_so}
use Rattle.lalrpop_lane_report.proofs.TraceGraphLemmas.{whole_edge}
use Rattle.lalrpop_lane_report.proofs.traces.tracer.draw_item.Goals as goal

pub returns-in_ok-add_edge : goal.returns-in_ok-add_edge
returns-in_ok-add_edge c =
    let item = c.args.item.now in
    let drawn = c.in_ok-add_edge.ensures.added in
    let after = c.add_edge.new.self in
    let whole = whole_edge c.args.graph.now after (node_view drawn.0) (node_view drawn.1) (label_view c.symbol_sets-labels.result) c.requires.whole drawn.4 in
    record {
      whole = on_ok_weaker c.visit_begins.result (λ pairs. whole) c.visit_begins.ensures;
      asks = on_ok_weaker c.visit_begins.result
          (λ pairs. λ by suits.
          item_goes c.args.ground.now.states.now by (pair_asked c.args.asked) item
          c.requires.asks ((c.in_ok-goes.ensures by suits).0 c.if-goes.true)
          (map pair_asked c.args.visited.now.keys) (map pair_asked c.visit_begins.new.visited.keys) c.args.graph.now after c.requires.whole
          (node_view drawn.0) (node_view drawn.1) c.in_ok-from.from c.in_ok-to.to (label_view c.symbol_sets-labels.result) drawn.2
          c.in_ok-from.ensures drawn.3 c.in_ok-to.ensures
          (labels_are c.symbol_sets-labels.result item c.symbol_sets-labels.ensures.prefix c.symbol_sets-labels.ensures.cursor
          c.symbol_sets-labels.ensures.suffix) drawn.4 c.symbol_sets-labels.result.prefix.now c.symbol_sets-labels.ensures.prefix pairs)
          c.visit_begins.ensures;
    }

pub returns-else-goes : goal.returns-else-goes
returns-else-goes c =
    let item = c.args.item.now in
    record {
      whole = on_ok_weaker c.add_edge-else-goes.result
          (λ drawn. whole_edge c.args.graph.now c.add_edge-else-goes.new.self (node_view drawn.0) (node_view drawn.1) (label_view c.symbol_sets-labels.result)
          c.requires.whole drawn.4) c.add_edge-else-goes.ensures.added;
      asks = on_ok_weaker c.add_edge-else-goes.result
          (λ drawn. λ by suits.
          item_stops c.args.ground.now.states.now by (pair_asked c.args.asked) item
          c.requires.asks
          (not_so c.in_ok-goes.goes (c.in_ok-goes.ensures by suits) c.if-goes.false) (map pair_asked c.args.visited.now.keys) c.args.graph.now
          c.add_edge-else-goes.new.self c.requires.whole (node_view drawn.0) (node_view drawn.1) c.in_ok-to.to (label_view c.symbol_sets-labels.result) drawn.2
          drawn.3 c.in_ok-to.ensures
          (labels_are c.symbol_sets-labels.result item c.symbol_sets-labels.ensures.prefix c.symbol_sets-labels.ensures.cursor
          c.symbol_sets-labels.ensures.suffix) drawn.4)
          c.add_edge-else-goes.ensures.added;
    }
