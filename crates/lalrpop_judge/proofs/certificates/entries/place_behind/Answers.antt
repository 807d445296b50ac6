use Rattle.std.proofs.Common.{arith}
use Rattle.lalrpop_judge.proofs.EntryLemmas.{front_all, front_fits, front_not, front_on, never}
use Rattle.lalrpop_judge.proofs.certificates.entries.place_behind.Goals as goal

pub split_at-requires : goal.split_at-requires
split_at-requires c = c.loop-tree.invariant.within

pub returns-then-not-begin_with : goal.returns-then-not-begin_with
returns-then-not-begin_with c = λ rest e.
    front_not c.args.entries.now c.split_at.result.1.now c.entries-front.result.now c.args.trees.now c.loop-tree.place
    c.loop-tree.tree-index c.tree-item.result c.loop-tree-test.true c.tree-item.is c.entries-front.ensures c.split_at.ensures.back
    c.loop-tree.invariant.within (λ h. never c.begin_with.result c.if-not-begin_with.true (c.begin_with.ensures.1 h))
    c.loop-tree.invariant.front rest e

pub overflow_add-place : goal.overflow_add-place
overflow_add-place c =
    let fits = front_fits c.split_at.result.1.now c.entries-front.result.now (c.begin_with.ensures.0 c.if-not-begin_with.false) in
    omega (arith, fits, c.split_at.ensures.back_len, c.loop-tree.invariant.within)

pub loop-tree-preserved : goal.loop-tree-preserved
loop-tree-preserved c =
    let begins = c.begin_with.ensures.0 c.if-not-begin_with.false in
    let fits = front_fits c.split_at.result.1.now c.entries-front.result.now begins in
    record {
      within = omega (arith, fits, c.split_at.ensures.back_len, c.loop-tree.invariant.within);
      front = front_on c.args.entries.now c.split_at.result.1.now c.entries-front.result.now c.args.trees.now c.loop-tree.place
          c.loop-tree.tree-index c.tree-item.result c.loop-tree-test.true c.tree-item.is c.entries-front.ensures
          c.split_at.ensures.back begins c.loop-tree.invariant.front;
    }

pub returns : goal.returns
returns c = (
  c.loop-tree.invariant.within,
  front_all c.args.entries.now c.args.trees.now c.loop-tree.place c.loop-tree.tree-index c.loop-tree-test.false
      c.loop-tree.invariant.front,
)
