use Rattle.std.proofs.Common.{◌≡◌, ◌∙◌, false, sym, true}
use Rattle.lalrpop_lane.proofs.LaneStateLemmas.{conflict_carried}
use Rattle.lalrpop_lane.proofs.construct.lane_states.Goals as goal

pub returns-then-none : goal.returns-then-none
returns-then-none c =
    let last = c.in_ok-states.ensures in record { reduced = last.reduced; no_conflict = last.tells.0 c.if-none.true }

pub returns : goal.returns
returns c =
    let last = c.in_ok-states.ensures in
    conflict_carried c.args.grammar.now c.requires c.args.start.now.0 c.args.copies c.in_ok-states.states.items last.reduced
    (λ h. let both : true ≡ false = sym (last.tells.1 h) ∙ c.if-none.false in let w : ⊥ = cc in w)
