use Rattle.std.proofs.Common.{◌↔◌, ◌<◌, Contains, length, subst, sym}
use Rattle.std.specs.Prelude.{flat_map}
use Rattle.lalrpop_lr1_barren.specs.Clauses.{IsMarked}
use Rattle.lalrpop_lr1_check.specs.EdgeTargets.{targets_of_state}
use Rattle.lalrpop_lr1_check.proofs.MarkLemmas.{marks_of}
use Rattle.lalrpop_lr1_check.proofs.closure.targets.targets_of.Goals as goal

pub returns : goal.returns
returns c = λ m.
    let states = c.args.states.now in
    subst (λ l. IsMarked l m ↔ ((m < length states) × Contains (flat_map targets_of_state states) m)) (sym c.mark_all_targets.ensures)
    (marks_of c.in_ok-marks.marks.items (flat_map targets_of_state states) (length states) m c.in_ok-marks.ensures.empty
    c.in_ok-marks.ensures.count)
