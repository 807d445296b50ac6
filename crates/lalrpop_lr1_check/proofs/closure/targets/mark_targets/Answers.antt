use Rattle.std.proofs.Common.{◌∙◌, ap, map, sym}
use Rattle.lalrpop_lr1_check.specs.EdgeTargets.{goto_target, shift_target}
use Rattle.lalrpop_lr1_check.specs.MarkGains.{marks_with}
use Rattle.lalrpop_lr1_check.proofs.MarkLemmas.{marks_with-append}
use Rattle.lalrpop_lr1_check.proofs.closure.targets.mark_targets.Goals as goal

pub returns : goal.returns
returns c =
    let state = c.args.state.now in
    c.mark_gotos.ensures ∙ ap (λ m. marks_with m (map goto_target state.gotos)) c.mark_shifts.ensures
    ∙ sym (marks_with-append c.args.marks.now.items (map shift_target state.shifts) (map goto_target state.gotos))
