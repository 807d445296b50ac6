use Rattle.std.proofs.Common.{subst}
use Rattle.std.proofs.Common.{below_more}
use Rattle.lalrpop_lr1_least_trees.specs.Searches.{IsQueue}
use Rattle.lalrpop_lr1_least_trees.proofs.least_counts.waiting.Worklist.all.Goals as goal

pub loop-rule-preserved : goal.loop-rule-preserved
loop-rule-preserved c = record {
  queue = subst (λ n. IsQueue n c.push.new.self) c.loop-rule.invariant.queue.long c.in_ok-push.ensures.queue;
  all = below_more _ _ (λ r h. c.in_ok-push.ensures.kept r (c.loop-rule.invariant.all r h)) c.in_ok-push.ensures.added;
}
