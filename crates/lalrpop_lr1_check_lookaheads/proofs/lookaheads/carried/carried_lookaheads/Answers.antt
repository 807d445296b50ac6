use Rattle.std.proofs.Common.{List, map, ℕ}
use Rattle.std.specs.Global.{Global}
use Rattle.std.specs.Prelude.{Vec}
use Rattle.std.proofs.lemmas.Result.{IfOk-weaker}
use Rattle.lalrpop_lr1_check_lookaheads.specs.CarriedSets.{AreCarriedSets, AreSetsOfStates, IsSetOfEnd}
use Rattle.lalrpop_lr1_check_lookaheads.specs.LookaheadFlows.{HaveKnownItems}
use Rattle.lalrpop_lr1_check_lookaheads.proofs.CarriedLemmas.{end_sets_are_carried}
use Rattle.lalrpop_lr1_check_lookaheads.proofs.lookaheads.carried.carried_lookaheads.Goals as goal

pub returns : goal.returns
returns c =
    let g = c.args.grammar.now in
    let s = c.args.start.now.0 in
    let states = c.args.states.now in
    let ends = c.in_ok-ends.ends in
    IfOk-weaker c.sets_of_states.result
    (λ (sets : Vec (Vec (List ℕ) Global) Global). AreSetsOfStates (IsSetOfEnd ends) states (map (λ own. own.items) sets.items))
    (λ (sets : Vec (Vec (List ℕ) Global) Global). HaveKnownItems g.terminals states → AreCarriedSets g s states (map (λ own. own.items) sets.items))
    (λ sets are known.
    end_sets_are_carried g c.requires.grammar s states ends (c.in_ok-ends.ensures.carried known) (map (λ own. own.items) sets.items) are)
    c.sets_of_states.ensures
