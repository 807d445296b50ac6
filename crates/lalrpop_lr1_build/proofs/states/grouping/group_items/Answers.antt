use Rattle.std.proofs.Common.{◌∙◌}
use Rattle.lalrpop_lr1_build.proofs.GroupLemmas.{grouped_more}
use Rattle.lalrpop_lr1_build.proofs.states.grouping.group_items.Goals as goal

pub loop-item-preserved : goal.loop-item-preserved
loop-item-preserved g c = (
  c.add_shifted.ensures.count ∙ c.loop-item.invariant.0,
  grouped_more c.args.table.now.places.items c.args.items.now c.loop-item.item-index c.item-item.result c.loop-item.groups.items
      c.add_shifted.new.groups.items c.loop-item-test.true c.item-item.is c.loop-item.invariant.1 c.in_ok-add_shifted.ensures.added,
)
