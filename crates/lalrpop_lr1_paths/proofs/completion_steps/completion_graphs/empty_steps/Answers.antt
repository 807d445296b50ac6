use Rattle.lalrpop_lr1_first.specs.FirstSetsOf.{IsProductionOf}
use Rattle.lalrpop_lr1_first.proofs.ListLemmas.{get_slice}
use Rattle.lalrpop_lr1_paths.proofs.StepEdgeLemmas.{all_empty, empty_more, listed_more}
use Rattle.lalrpop_lr1_paths.proofs.completion_steps.completion_graphs.empty_steps.Goals as goal

pub loop-number-preserved : goal.loop-number-preserved
loop-number-preserved c =
    let table = c.args.paths.now.trees.now.table in
    let steps = c.args.steps.now in
    let n = c.loop-number.number in
    let step = c.index-steps-number.result in
    let at = get_slice steps n step c.loop-number-test.true c.index-steps-number.is in
    let old = c.loop-number.listed in
    let new = c.list_empty.new.listed in
    let lists = c.in_ok-list_empty.ensures in (
      listed_more table steps n step at old new lists c.loop-number.invariant.0,
      λ g of. empty_more table steps n step at old new g of lists (c.loop-number.invariant.1 g of),
    )

pub returns-clause-edges : goal.returns-clause-edges
returns-clause-edges c = c.loop-number.invariant.0.each

pub returns-clause-empty : goal.returns-clause-empty
returns-clause-empty c = λ g of.
    all_empty (IsProductionOf g) c.args.steps.now c.loop-number.number c.loop-number.listed c.loop-number-test.false
    (c.loop-number.invariant.1 g of)
