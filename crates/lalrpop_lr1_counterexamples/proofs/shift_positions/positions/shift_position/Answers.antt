use Rattle.std.proofs.Common.{subst}
use Rattle.lalrpop_lr1_counterexamples.specs.ShiftPositions.{IsFirstPositionIf}
use Rattle.lalrpop_lr1_counterexamples.proofs.PositionLemmas.{found_position}
use Rattle.lalrpop_lr1_counterexamples.proofs.shift_positions.positions.shift_position.Goals as goal

pub returns : goal.returns
returns g c = λ look all n is.
    found_position look all n c.args.state.now is c.args.terminal.now c.first_position.result
    (subst (λ items. IsFirstPositionIf items c.args.terminal.now c.first_position.result) c.as_slice.ensures c.first_position.ensures)
