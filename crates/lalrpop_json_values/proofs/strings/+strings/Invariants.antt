use Rattle.std.proofs.Common.{◌+◌, ◌*◌, drop}
use Rattle.serde_json.specs.Data.{depth, items_depth, members_depth}
use Rattle.lalrpop_json_document.specs.DocumentViews.{view, items_view, members_view}
use Rattle.lalrpop_json_values.specs.Strings.{items_strings, members_strings}
use Rattle.lalrpop_json_values.proofs.StringRunLemmas.{IsSoFar}
use Rattle.lalrpop_json_values.proofs.strings.+strings.Given as goal

abbrev pub decreases-longest_in : goal.decreases-longest_in
decreases-longest_in l = 2 * depth (view l.value.now)

abbrev pub decreases-longest_in_items : goal.decreases-longest_in_items
decreases-longest_in_items l = 2 * items_depth (items_view l.items.now) + 1

abbrev pub invariant-longest_in_items-loop-item : goal.invariant-longest_in_items-loop-item
invariant-longest_in_items-loop-item l =
    IsSoFar (items_strings (items_view l.items)) l.longest (items_strings (items_view (drop l.item-index l.items)))

abbrev pub decreases-longest_in_members : goal.decreases-longest_in_members
decreases-longest_in_members l = 2 * members_depth (members_view l.members.now.items) + 1

abbrev pub invariant-longest_in_members-loop-member : goal.invariant-longest_in_members-loop-member
invariant-longest_in_members-loop-member l =
    IsSoFar (members_strings (members_view l.members.items)) l.longest
    (members_strings (members_view (drop l.member-index l.members.items)))
