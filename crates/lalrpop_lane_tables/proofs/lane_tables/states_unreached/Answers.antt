use Rattle.std.proofs.Common.{rules, ◌≡◌, ◌∷◌, []}
use Rattle.lalrpop_lane_tables.proofs.RowLemmas.{unreached_begin, unreached_end, unreached_goes_on}
use Rattle.lalrpop_lane_tables.proofs.lane_tables.states_unreached.Goals as goal

pub loop-state-init : goal.loop-state-init
loop-state-init c =
    let all : c.into_iter-state-iterator.result ≡ c.args.lookaheads.now = search rules in
    let none : c.new-states.result.keys ≡ [] = search rules in
    rw (all, none) (unreached_begin c.args.lookaheads.now c.args.reached.now.keys)

pub loop-state-preserved : goal.loop-state-preserved
loop-state-preserved c =
    let left : c.loop-state.state-iterator ≡ (c.in-Some.state.now, c.in-Some.row.now) ∷ c.next.new.self = search rules in
    unreached_goes_on c.args.lookaheads.now c.args.reached.now.keys c.loop-state.state-iterator c.in-Some.state.now c.in-Some.row.now
    c.next.new.self c.loop-state.states.keys c.add_unreached.new.states.keys left c.in_ok-add_unreached.ensures c.loop-state.invariant

pub returns : goal.returns
returns c =
    let left : c.loop-state.state-iterator ≡ [] = search rules in
    unreached_end c.args.lookaheads.now c.args.reached.now.keys c.loop-state.state-iterator c.loop-state.states.keys left c.loop-state.invariant
