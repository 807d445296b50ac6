use Rattle.lalrpop_lr1_check_lookaheads.specs.Ends.{ReductionBrings, end_table}
use Rattle.lalrpop_lr1_check_lookaheads.proofs.KeyedSetLemmas.{some_all, some_more, some_none}
use Rattle.lalrpop_lr1_check_lookaheads.proofs.lookaheads.reducing.add_reductions.Goals as goal

pub add-requires : goal.add-requires
add-requires c = c.loop-reduction.invariant.are

pub loop-reduction-init : goal.loop-reduction-init
loop-reduction-init c = some_none (ReductionBrings c.args.state) (end_table c.args.ends.now) c.requires

pub loop-reduction-preserved : goal.loop-reduction-preserved
loop-reduction-preserved c =
    some_more (ReductionBrings c.args.state) (end_table c.args.ends.now) (end_table c.loop-reduction.ends) (end_table c.add.new.self)
    c.args.reductions.now c.loop-reduction.reduction-index c.reduction-item.result c.loop-reduction-test.true c.reduction-item.is
    c.loop-reduction.invariant c.in_ok-add.ensures

pub returns : goal.returns
returns c =
    some_all (ReductionBrings c.args.state) (end_table c.args.ends.now) (end_table c.loop-reduction.ends) c.args.reductions.now
    c.loop-reduction.reduction-index c.loop-reduction-test.false c.loop-reduction.invariant
