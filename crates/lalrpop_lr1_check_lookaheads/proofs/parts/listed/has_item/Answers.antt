use Rattle.std.proofs.Common.{◌≡◌, ◌∙◌, sym}
use Rattle.std.specs.List.{list_any}
use Rattle.lalrpop_lr1_check_lookaheads.specs.ListedItems.{item_key}
use Rattle.lalrpop_lr1_check_lookaheads.specs.contracts.parts.listed.ListedItemPartialEq.TheImpl as items
use Rattle.lalrpop_lr1_check_lookaheads.specs.declared.parts.listed.ListedItem.{ListedItem}
use Rattle.lalrpop_lr1_check_lookaheads.proofs.GainLemmas.{any_there, there_any}
use Rattle.lalrpop_lr1_check_lookaheads.proofs.ListedLemmas.{same_items}
use Rattle.lalrpop_lr1_check_lookaheads.proofs.parts.listed.has_item.Goals as goal

pub returns : goal.returns
returns c =
    let k : ListedItem = record { state = c.args.state; production = c.args.production; dot = c.args.dot } in
    let e : c.contains.result ≡ list_any ((items.ghosts).eq k) c.args.listed.now.keys = c.contains.ensures in (
      λ h. any_there item_key (items.ghosts).eq same_items c.args.listed.now.keys k (sym e ∙ h),
      λ h. e ∙ there_any item_key (items.ghosts).eq same_items c.args.listed.now.keys k h,
    )
