use Rattle.lalrpop_lr1_interpret.proofs.LentLemmas.{root_below}
use Rattle.lalrpop_lr1_interpret.proofs.parse.tree_ref.TreeRef.children.Goals as goal

pub invariant_of-result : goal.invariant_of-result
invariant_of-result c =
    record {
      in_order = (root_below c.args.self.now.entries.now c.split_at.result.0.now c.args.self.now.in_order c.split_at.ensures.front).0;
    }

pub returns : goal.returns
returns c = (root_below c.args.self.now.entries.now c.split_at.result.0.now c.args.self.now.in_order c.split_at.ensures.front).1
