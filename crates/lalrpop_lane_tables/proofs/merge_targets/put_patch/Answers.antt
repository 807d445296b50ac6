use Rattle.std.proofs.Common.{◌≡◌, ◌∙◌, ap, get_or, List, set, sym, ℕ}
use Rattle.lalrpop_lr1_theory.proofs.StepLemmas.{some_same}
use Rattle.lalrpop_lr1_core.specs.declared.state.State.{State}
use Rattle.lalrpop_lane_tables.proofs.PatchLemmas.{got_or}
use Rattle.lalrpop_lane_tables.proofs.merge_targets.put_patch.Goals as goal

pub returns : goal.returns
returns c = λ own at.
    let place = c.args.patch.state.0 in
    let here : State (List ℕ) = get_or c.args.states.now place c.index-states-state.result in
    let same : here ≡ own = some_same here own (sym (got_or c.args.states.now place c.index-states-state.result c.requires) ∙ at) in
    ap (λ (v : State (List ℕ)). set c.args.states.now place v)
    (c.give_reductions.ensures ∙ ap (λ (s : State (List ℕ)). record s { reductions = c.args.patch.reductions }) same)
