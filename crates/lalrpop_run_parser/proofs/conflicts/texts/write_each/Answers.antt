use Rattle.std.proofs.Common.{◌++◌, ap, ◌∙◌, rules, arith, take}
use Rattle.std.proofs.Output.{has_written_append, has_written_of_eq}
use Rattle.lalrpop_run_parser.specs.ConflictTexts.{conflict_lines, conflict_text}
use Rattle.lalrpop_run_parser.proofs.ConflictLineLemmas.{lines_more}
use Rattle.lalrpop_run_parser.proofs.conflicts.texts.write_each.Goals as goal

pub loop-conflict-preserved : goal.loop-conflict-preserved
loop-conflict-preserved g c plain =
    let before = c.loop-conflict.invariant plain in
    let front = conflict_lines (take c.loop-conflict.conflict-index c.args.conflicts.now) in
    has_written_of_eq _ _ _ _ _
    (ap (λ t. front ++ conflict_text t) c.conflict-item.is
    ∙ lines_more c.args.conflicts.now c.loop-conflict.conflict-index _ (omega arith))
    (has_written_append _ _ _ _ _ _ before (c.write.ensures.writes before.plain (search rules)))
