use Rattle.std.proofs.Common.{arith, length, ◌≤◌}
use Rattle.lalrpop_lr1_check_lookaheads.proofs.GainLemmas.{first_all, first_more, first_none}
use Rattle.lalrpop_lane_tables.specs.MergedStates.{HasOneEdgeEach}
use Rattle.lalrpop_lane.proofs.OneEdgeLemmas.{one_edge}
use Rattle.lalrpop_lane.proofs.rounds.edges_known.Goals as goal

pub loop-state-init : goal.loop-state-init
loop-state-init c = first_none (λ _ state. HasOneEdgeEach state) c.args.states.now

pub loop-state-preserved : goal.loop-state-preserved
loop-state-preserved c =
    let state = c.state-item.result in
    first_more (λ _ state. HasOneEdgeEach state) c.args.states.now c.loop-state.state-index state c.loop-state-test.true c.state-item.is
    (one_edge state c.known.ensures c.known-in-loop-state.ensures) c.loop-state.invariant

pub returns : goal.returns
returns c =
    let end : length c.args.states.now ≤ c.loop-state.state-index = omega (arith, c.loop-state-test.false) in
    first_all (λ _ state. HasOneEdgeEach state) c.args.states.now c.loop-state.state-index end c.loop-state.invariant
