use Rattle.std.proofs.Common.{rules, ◌≡◌, ◌∙◌, ◌∷◌, ap, sym}
use Rattle.lalrpop_lane_tables.specs.ReachedStates.{led_to, states_with}
use Rattle.lalrpop_lane_tables.proofs.KeyLemmas.{states_with-append}
use Rattle.lalrpop_lane_tables.proofs.lane_tables.reached_states.Goals as goal

pub loop-state-preserved : goal.loop-state-preserved
loop-state-preserved c =
    let old = c.loop-state.reached.keys in
    let rest = c.next.new.self in
    let left : c.loop-state.state-iterator ≡ (c.in-Some.state.now, c.in-Some.states.now) ∷ rest = search rules in
    ap (λ k. states_with k (led_to rest)) c.in_ok-reach_all.ensures
    ∙ sym (states_with-append old c.in-Some.states.now.keys (led_to rest))
    ∙ ap (λ l. states_with old (led_to l)) (sym left) ∙ c.loop-state.invariant
