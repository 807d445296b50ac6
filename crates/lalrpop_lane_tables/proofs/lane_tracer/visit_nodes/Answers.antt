use Rattle.std.proofs.Common.{rules, ◌≡◌, ◌∙◌, [], false, map, None, slice_get, Some, sym}
use Rattle.lalrpop_lr1_theory.specs.States.{LookaheadSet}
use Rattle.lalrpop_lane_tables.specs.NodeKeys.{node_key}
use Rattle.lalrpop_lane_tables.proofs.NodeLemmas.{key_at, none_more}
use Rattle.lalrpop_lane_tables.proofs.TracingLemmas.{tracing_ends, tracing_goes_on}
use Rattle.lalrpop_lane_tables.proofs.lane_tracer.visit_nodes.Goals as goal

pub loop-node-preserved : goal.loop-node-preserved
loop-node-preserved g c =
    let nothing : LookaheadSet = record { nexts = []; error = false } in
    let at : slice_get c.loop-node.visited.keys c.loop-node.number ≡ Some c.in-Some.node = sym c.in-Some.ensures.node in (
      (c.in_ok-take_steps.ensures (λ l. nothing)).gains.conflicts ∙ c.loop-node.invariant.0,
      λ look n p before tracing.
          tracing_goes_on look c.args.ground.now.grammar.now c.args.ground.now.start.0 c.args.ground.now.states.now n p c.args.conflict.index
          before (map node_key c.loop-node.visited.keys) (map node_key c.take_steps.new.visited.keys) c.loop-node.number
          (node_key c.in-Some.node) c.loop-node.table c.take_steps.new.table (c.loop-node.invariant.1 look n p before tracing)
          (key_at c.loop-node.visited.keys c.loop-node.number c.in-Some.node at) (c.in_ok-take_steps.ensures look),
    )

pub returns : goal.returns
returns g c =
    let none : slice_get c.loop-node.visited.keys c.loop-node.number ≡ None = search rules in
    λ look n p before tracing.
    tracing_ends look c.args.ground.now.grammar.now c.args.ground.now.start.0 c.args.ground.now.states.now n p c.args.conflict.index before
    (map node_key c.loop-node.visited.keys) c.loop-node.number c.loop-node.table
    (none_more c.loop-node.visited.keys c.loop-node.number none) (c.loop-node.invariant.1 look n p before tracing)
