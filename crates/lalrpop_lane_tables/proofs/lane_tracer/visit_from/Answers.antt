use Rattle.std.proofs.Common.{◌≡◌, ◌∙◌, ap, length, map, sym}
use Rattle.std.proofs.lemmas.List.{length-map}
use Rattle.std.proofs.lemmas.Result.{on_ok_weaker}
use Rattle.lalrpop_lr1_core.specs.Views.{production_symbol_view, production_view}
use Rattle.lalrpop_lane_tables.specs.NodeKeys.{node_key}
use Rattle.lalrpop_lane_tables.specs.TraceNodes.{node_of_item}
use Rattle.lalrpop_lane_tables.proofs.NodeLemmas.{first_visited}
use Rattle.lalrpop_lane_tables.proofs.TracingLemmas.{tracing_begins}
use Rattle.lalrpop_lane_tables.proofs.lane_tracer.visit_from.Goals as goal

pub returns : goal.returns
returns g c =
    let p = production_view c.args.production.now in
    let first : node_key c.node_of.result ≡ node_of_item c.args.state p (length p.right) =
    c.node_of.ensures
    ∙ ap (node_of_item c.args.state p) (c.len.ensures ∙ sym (length-map c.args.production.now.symbols production_symbol_view)) in
    on_ok_weaker c.visit_nodes.result
    (λ traced. λ look before gains.
    traced look c.args.state p before
    (tracing_begins look c.args.ground.now.grammar.now c.args.ground.now.start.0 c.args.ground.now.states.now c.args.state p
    c.args.conflict.index before (map node_key c.visit.new.visited.keys) c.args.table.now
    (first_visited c.args.visited.now.keys (map node_key c.visit.new.visited.keys) (node_key c.node_of.result)
    (node_of_item c.args.state p (length p.right)) c.requires.empty first c.in_ok-visit.ensures) gains)) c.visit_nodes.ensures
