use Rattle.std.proofs.Common.{◌≡◌, drop}
use Rattle.std.specs.Prelude.{flat_map}
use Rattle.lalrpop_lr1_check.specs.EdgeTargets.{targets_of_state}
use Rattle.lalrpop_lr1_check.specs.MarkGains.{marks_with}
use Rattle.lalrpop_lr1_check.proofs.closure.targets.mark_all_targets.Given as goal

abbrev pub invariant-loop-state : goal.invariant-loop-state
invariant-loop-state l =
    marks_with l.marks.items (flat_map targets_of_state (drop l.state-index l.states))
    ≡ marks_with l.fn.marks.items (flat_map targets_of_state l.states)
