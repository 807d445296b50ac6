use Rattle.std.proofs.Common.{Contains, arith, get_or, subst}
use Rattle.std.proofs.Common.{below_more}
use Rattle.lalrpop_lr1_least_trees.specs.Searches.{IsQueue}
use Rattle.lalrpop_lr1_least_trees.proofs.CountLemmas.{read_there}
use Rattle.lalrpop_lr1_least_trees.proofs.QueueLemmas.{contains_read}
use Rattle.lalrpop_lr1_least_trees.proofs.least_counts.waiting.Worklist.push_all.Goals as goal

pub push-requires-clause-within : goal.push-requires-clause-within
push-requires-clause-within c =
    let xs = c.args.rules.now in
    let i = c.loop-rule.rule-index in
    omega (arith, c.requires.within (get_or xs i 0) (read_there xs i c.loop-rule-test.true), c.loop-rule.invariant.queue.long)

pub loop-rule-preserved : goal.loop-rule-preserved
loop-rule-preserved c = record {
  queue = subst (λ n. IsQueue n c.push.new.self) c.loop-rule.invariant.queue.long c.in_ok-push.ensures.queue;
  kept = λ r h. c.in_ok-push.ensures.kept r (c.loop-rule.invariant.kept r h);
  added = below_more _ _ (λ k h. c.in_ok-push.ensures.kept (get_or c.args.rules.now k 0) (c.loop-rule.invariant.added k h))
      c.in_ok-push.ensures.added;
  count = omega (arith, c.loop-rule.invariant.count, c.in_ok-push.ensures.count);
}

pub returns-clause-added : goal.returns-clause-added
returns-clause-added c = λ r d.
    let xs = c.args.rules.now in
    let there = c.loop-rule.invariant.added d.0 (omega (arith, d.1, c.loop-rule-test.false)) in
    subst (λ q. Contains c.loop-rule.self.rules.items q) (contains_read xs r d) there
