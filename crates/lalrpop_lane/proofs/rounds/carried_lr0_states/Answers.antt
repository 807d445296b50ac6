use Rattle.std.proofs.Common.{List, ℕ}
use Rattle.std.specs.Global.{Global}
use Rattle.std.specs.Prelude.{Vec}
use Rattle.std.proofs.lemmas.Result.{IfOk-weaker}
use Rattle.lalrpop_lr1_core.specs.declared.state.State.{State}
use Rattle.lalrpop_lane.specs.LaneStates.{AreReducedStates, ReduceBeforeCarried}
use Rattle.lalrpop_lane.proofs.LaneStateLemmas.{lr0_reduced, spread_known}
use Rattle.lalrpop_lane.proofs.rounds.carried_lr0_states.Goals as goal

pub reduce_before_carried-requires-clause-known : goal.reduce_before_carried-requires-clause-known
reduce_before_carried-requires-clause-known c =
    spread_known c.args.grammar.now c.requires.grammar c.args.start.now.0 0 c.in_ok-lr0.lr0.items c.in_ok-lr0.ensures

pub returns : goal.returns
returns c =
    let g = c.args.grammar.now in
    let s = c.args.start.now.0 in
    let lr0 = c.in_ok-lr0.lr0.items in
    IfOk-weaker c.reduce_before_carried.result
    (λ (new : Vec (State (List ℕ)) Global). ReduceBeforeCarried g s lr0 new.items)
    (λ (new : Vec (State (List ℕ)) Global). AreReducedStates g s 0 new.items)
    (λ new before. lr0_reduced g c.requires.grammar s lr0 new.items before c.in_ok-lr0.ensures)
    c.reduce_before_carried.ensures
