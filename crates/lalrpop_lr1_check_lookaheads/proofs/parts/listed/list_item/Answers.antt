use Rattle.lalrpop_lr1_check_lookaheads.specs.ListedItems.{item_key}
use Rattle.lalrpop_lr1_check_lookaheads.specs.contracts.parts.listed.ListedItemPartialEq.TheImpl as items
use Rattle.lalrpop_lr1_check_lookaheads.proofs.GainLemmas.{gains_one}
use Rattle.lalrpop_lr1_check_lookaheads.proofs.ListedLemmas.{same_items}
use Rattle.lalrpop_lr1_check_lookaheads.proofs.parts.listed.list_item.Goals as goal

pub returns : goal.returns
returns c = gains_one item_key (items.ghosts).eq same_items c.args.listed.now.keys c.insert.new.self.keys c.args.item
    c.in_ok-insert.ensures.keys
