use Rattle.std.proofs.Common.{rules, arith}
use Rattle.std.proofs.Output.{has_written_append, has_written_of_eq}
use Rattle.lalrpop_json_values.proofs.PathTextLemmas.{path-more}
use Rattle.lalrpop_json_values.proofs.telling.PathTextDisplay.fmt.Goals as goal

pub loop-step-preserved : goal.loop-step-preserved
loop-step-preserved g c plain =
    let before = c.loop-step.invariant plain in
    has_written_of_eq _ _ _ _ _ (path-more c.args.self.now.0.now c.loop-step.step-index _ (omega arith))
    (has_written_append _ _ _ _ _ _ before (c.write.ensures.writes before.plain (search rules)))
