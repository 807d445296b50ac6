use Rattle.std.proofs.Common.{◌∙◌}
use Rattle.lalrpop_lr1_check.specs.NamesBehind.{IsNumberBehind}
use Rattle.lalrpop_lr1_check.proofs.ListedMarkLemmas.{listed_first, listed_next, listed_whole}
use Rattle.lalrpop_lr1_check.proofs.closure.names_behind.mark_names_behind.Goals as goal

pub mark_name_behind-requires-clause-count : goal.mark_name_behind-requires-clause-count
mark_name_behind-requires-clause-count c = c.loop-item.invariant.gains.count ∙ c.requires.count

pub loop-item-init : goal.loop-item-init
loop-item-init c = listed_first (IsNumberBehind c.args.table.now) c.args.names.now c.args.items.now

pub loop-item-preserved : goal.loop-item-preserved
loop-item-preserved c =
    listed_next (IsNumberBehind c.args.table.now) c.args.names.now c.args.items.now c.loop-item.names
    c.mark_name_behind.new.names c.loop-item.item-index c.item-item.result c.loop-item-test.true c.item-item.is c.loop-item.invariant
    c.in_ok-mark_name_behind.ensures

pub returns : goal.returns
returns c =
    listed_whole (IsNumberBehind c.args.table.now) c.args.names.now c.args.items.now c.loop-item.names c.loop-item.item-index
    c.loop-item-test.false c.loop-item.invariant
