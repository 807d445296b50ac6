use Rattle.lalrpop_lane_report.proofs.GoingLemmas.{reduction_goes, shift_goes}
use Rattle.lalrpop_lane_report.proofs.traces.tracer.goes_on.Goals as goal

pub returns-in-Shift : goal.returns-in-Shift
returns-in-Shift c =
    rw c.in-Shift.is (λ by suits. shift_goes c.args.item.now c.args.ground.now.first_sets.now c.args.ground.now.terminals.now by suits)

pub returns-in_ok-first-in-Reduction : goal.returns-in_ok-first-in-Reduction
returns-in_ok-first-in-Reduction c =
    rw c.in-Reduction.is
    (λ by suits. reduction_goes c.args.item.now c.contains_eof.result c.in_ok-first-in-Reduction.first c.symbol_sets.result.suffix.now
    c.args.ground.now.first_sets.now c.args.ground.now.terminals.now by suits c.symbol_sets.ensures.suffix c.in_ok-first-in-Reduction.ensures.first
    c.contains_eof.ensures)
