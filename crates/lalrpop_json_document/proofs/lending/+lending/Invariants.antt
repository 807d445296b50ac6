use Rattle.std.proofs.Common.{◌≡◌, ◌+◌, ◌*◌, take}
use Rattle.serde_json.specs.Data.{depth, items_depth, members_depth}
use Rattle.serde_json.specs.View as owned
use Rattle.lalrpop_json_document.specs.DocumentViews.{items_view}
use Rattle.lalrpop_json_document.proofs.LendingLemmas.{AreLentSoFar}
use Rattle.lalrpop_json_document.proofs.lending.+lending.Given as goal

abbrev pub decreases-lend_value : goal.decreases-lend_value
decreases-lend_value l = 2 * depth (owned.view l.value.now)

abbrev pub decreases-lend_items : goal.decreases-lend_items
decreases-lend_items l = 2 * items_depth (owned.items_view l.items.now) + 1

abbrev pub invariant-lend_items-loop-item : goal.invariant-lend_items-loop-item
invariant-lend_items-loop-item l = items_view l.lent.items ≡ owned.items_view (take l.item-index l.items)

abbrev pub decreases-lend_members : goal.decreases-lend_members
decreases-lend_members l = 2 * members_depth (owned.members_view l.members.now.entries) + 1

abbrev pub invariant-lend_members-loop-key : goal.invariant-lend_members-loop-key
invariant-lend_members-loop-key l = AreLentSoFar l.members.entries l.key-iterator l.lent.items
