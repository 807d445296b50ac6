use Rattle.std.proofs.Common.{◌≡◌, ◌∙◌, ◌↔◌, List, false, subst, sym, true, ℕ}
use Rattle.lalrpop_lr1_theory.specs.CheckedStates.{AreCheckedStates}
use Rattle.lalrpop_lr1_core.specs.TheoryGrammars.{theory_grammar}
use Rattle.lalrpop_lr1_core.specs.declared.state.State.{State}
use Rattle.lalrpop_lr1_build.specs.CollapseAnswers.{states_over}
use Rattle.lalrpop_lr1_check.specs.StatesOver.{AreStatesOver}
use Rattle.lalrpop_lane.specs.LaneStates.{LaneAnswer}
use Rattle.lalrpop_lane.proofs.CheckedLaneLemmas.{lane_checked, lane_over, lane_passed}
use Rattle.lalrpop_lane.proofs.building.checked_lane_states.Goals as goal

pub returns-in-None : goal.returns-in-None
returns-in-None c = λ nb alone. subst (LaneAnswer c.args.grammar.now c.args.start.now.0 c.args.copies) c.in-None.is c.in_ok-found.ensures

pub returns-then-checked : goal.returns-then-checked
returns-then-checked c =
    let g = c.args.grammar.now in
    let s = c.args.start.now.0 in
    let all = c.in-Some.states.items in
    let lane = subst (LaneAnswer g s c.args.copies) c.in-Some.is c.in_ok-found.ensures in
    let says = subst (λ (l : List (State (List ℕ))). AreStatesOver g.terminals l → (c.in_ok-checked-in-Some.checked ≡ true)
    ↔ AreCheckedStates (theory_grammar g) s (states_over g.terminals l)) c.as_slice.ensures.value c.in_ok-checked-in-Some.ensures in
    lane_passed g c.requires s c.args.copies all lane
    ((says (lane_over g c.requires s c.args.copies all lane)).0 c.if-checked.true)

pub returns : goal.returns
returns c = λ nb alone.
    let g = c.args.grammar.now in
    let s = c.args.start.now.0 in
    let all = c.in-Some.states.items in
    let lane = subst (LaneAnswer g s c.args.copies) c.in-Some.is c.in_ok-found.ensures in
    let says = subst (λ (l : List (State (List ℕ))). AreStatesOver g.terminals l → (c.in_ok-checked-in-Some.checked ≡ true)
    ↔ AreCheckedStates (theory_grammar g) s (states_over g.terminals l)) c.as_slice.ensures.value c.in_ok-checked-in-Some.ensures in
    let both : true ≡ false = sym ((says (lane_over g c.requires s c.args.copies all lane)).1
    (lane_checked g c.requires s c.args.copies all lane nb alone)) ∙ c.if-checked.false in
    let w : ⊥ = cc in absurd w
