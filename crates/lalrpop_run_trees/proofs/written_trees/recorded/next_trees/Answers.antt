use Rattle.std.proofs.Common.{◌∙◌, sym}
use Rattle.lalrpop_run_trees.proofs.TakingLemmas.{dropped_more, taken_more}
use Rattle.lalrpop_run_trees.proofs.written_trees.recorded.next_trees.Goals as goal

pub loop-preserved : goal.loop-preserved
loop-preserved c =
    let before = c.loop.invariant.left in
    record {
      taken = taken_more _ c.loop.counter c.in-Some.tree _ _ _ c.loop.invariant.taken (sym before ∙ c.in-Some.ensures.items)
          c.in_ok-push-in-Some.ensures.items;
      left = dropped_more _ c.loop.counter c.in-Some.tree _ (sym before ∙ c.in-Some.ensures.items);
    }
