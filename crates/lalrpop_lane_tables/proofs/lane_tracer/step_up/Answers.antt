use Rattle.std.proofs.Common.{map}
use Rattle.std.proofs.lemmas.Result.{on_ok_weaker}
use Rattle.lalrpop_lane_tables.specs.NodeKeys.{node_key}
use Rattle.lalrpop_lane_tables.proofs.FrontLemmas.{front_steps}
use Rattle.lalrpop_lane_tables.proofs.lane_tracer.step_up.Goals as goal

pub returns : goal.returns
returns g c =
    on_ok_weaker c.ask_items.result
    (λ asked. λ look.
    front_steps look c.args.ground.now.grammar.now c.args.ground.now.start.0 c.args.ground.now.states.now c.args.state c.args.name.now.0
    c.items_of-items.result.now c.items_of-items.ensures c.args.conflict.index (map node_key c.args.visited.now.keys)
    (map node_key c.ask_items.new.visited.keys) c.args.table.now c.add_end.new.table c.ask_items.new.table c.in_ok-add_end.ensures asked)
    c.ask_items.ensures
