use Rattle.std.proofs.Common.{arith, refl, sym}
use Rattle.lalrpop_lr1_least_trees.proofs.QueueLemmas.{taken_first}
use Rattle.lalrpop_lr1_least_trees.proofs.least_counts.waiting.Worklist.pop.Goals as goal
use Rattle.lalrpop_lr1_theory.proofs.ListLemmas.{contains_here}
use Rattle.std.proofs.Common.{subst, Contains}

pub index_mut-requires : goal.index_mut-requires
index_mut-requires c =
    let first = subst (λ l. Contains l c.in_ok-rule.rule) (sym c.in_ok-rule.ensures.items)
    (contains_here c.in_ok-rule.rule c.pop_front.new.self.items) in
    omega (arith, c.requires.within c.in_ok-rule.rule first)

pub returns : goal.returns
returns c =
    taken_first c.in_ok-rule.rule c.args.self.now _ c.requires c.in_ok-rule.ensures.items refl
