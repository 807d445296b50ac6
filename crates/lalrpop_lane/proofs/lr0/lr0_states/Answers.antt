use Rattle.std.proofs.Common.{◌≡◌, ◌∙◌, List, ap, map, subst, sym, ℕ}
use Rattle.std.specs.Global.{Global}
use Rattle.std.specs.Prelude.{Vec}
use Rattle.std.proofs.lemmas.Result.{IfOk-weaker}
use Rattle.lalrpop_lr1_core.specs.declared.state.State.{State}
use Rattle.lalrpop_lane.specs.LaneStates.{AreSpreadOverLr0, state_before}
use Rattle.lalrpop_lane.proofs.LaneStateLemmas.{lr0_spread}
use Rattle.lalrpop_lane.proofs.lr0.lr0_states.Goals as goal

pub returns : goal.returns
returns c =
    let g = c.args.grammar.now in
    let start = c.args.start.now in
    let set = c.in_ok-all.all in
    let built = c.in_ok-states.states.items in
    IfOk-weaker c.put_states_before.result
    (λ (new : Vec (State (List ℕ)) Global). new.items ≡ map (state_before set) c.as_slice.result.now)
    (λ (new : Vec (State (List ℕ)) Global). AreSpreadOverLr0 g start.0 0 new.items)
    (λ new e.
    subst (AreSpreadOverLr0 g start.0 0) (sym (e ∙ ap (map (state_before set)) c.as_slice.ensures.value))
    (lr0_spread g start set built c.in_ok-states.ensures))
    c.put_states_before.ensures
