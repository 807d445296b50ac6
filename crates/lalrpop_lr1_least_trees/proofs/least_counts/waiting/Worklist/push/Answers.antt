use Rattle.std.proofs.Common.{refl}
use Rattle.lalrpop_lr1_least_trees.proofs.QueueLemmas.{pushed_new}
use Rattle.lalrpop_lr1_least_trees.proofs.least_counts.waiting.Worklist.push.Goals as goal

pub returns-in_ok-push_back : goal.returns-in_ok-push_back
returns-in_ok-push_back c =
    pushed_new c.args.rule c.args.self.now _ c.requires.queue c.requires.within c.in_ok-push_back.ensures.items refl
