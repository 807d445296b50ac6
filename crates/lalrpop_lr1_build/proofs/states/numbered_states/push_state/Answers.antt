use Rattle.lalrpop_lr1_build.proofs.states.numbered_states.push_state.Goals as goal

pub returns-clause-turn : goal.returns-clause-turn
returns-clause-turn g c = (c.in_ok-state.state, c.in_ok-push.ensures.items, c.in_ok-state.ensures.turn)
