use Rattle.lalrpop_lr1_counterexamples.proofs.SlotLemmas.{least_more}
use Rattle.lalrpop_lr1_counterexamples.proofs.certificates.shown.ShownConflicts.least_tokens.Goals as goal

pub loop-number-preserved : goal.loop-number-preserved
loop-number-preserved c =
    least_more c.args.self.now c.loop-number.number c.loop-number.tokens.items c.push.new.self.items c.least_token.result
    c.in_ok-push.ensures.items c.loop-number.invariant c.least_token.ensures
