use Rattle.std.proofs.Common.{◌+◌, ◌*◌, length}
use Rattle.json.specs.Json.{value}
use Rattle.serde_json.specs.Data.{no_members}
use Rattle.lalrpop_json_document.specs.DocumentViews.{members_view}
use Rattle.lalrpop_json_document.proofs.MemberOrderLemmas.{Ascends}
use Rattle.lalrpop_json_document.proofs.ReadingLemmas.{ItemsSoFar, MembersSoFar}
use Rattle.lalrpop_json_document.proofs.reader.reading.+read_value.Given as goal

abbrev pub decreases-read_value : goal.decreases-read_value
decreases-read_value l = 3 * l.depth

abbrev pub decreases-read_items : goal.decreases-read_items
decreases-read_items l = 3 * l.depth + 1

abbrev pub decreases-read_members : goal.decreases-read_members
decreases-read_members l = 3 * l.depth + 2

abbrev pub decreases-read_unordered_members : goal.decreases-read_unordered_members
decreases-read_unordered_members l = 3 * l.depth + 1

abbrev pub invariant-read_items-items : goal.invariant-read_items-items
invariant-read_items-items l = ItemsSoFar (value l.depth) l.initial.reader l.reader l.found.items

abbrev pub decreases-read_items-items : goal.decreases-read_items-items
decreases-read_items-items l = length l.reader

abbrev pub invariant-read_members-members : goal.invariant-read_members-members
invariant-read_members-members l =
    MembersSoFar (value l.depth) no_members l.initial.reader l.reader (members_view l.found.items) × Ascends l.found.items

abbrev pub decreases-read_members-members : goal.decreases-read_members-members
decreases-read_members-members l = length l.reader

abbrev pub invariant-read_unordered_members-members : goal.invariant-read_unordered_members-members
invariant-read_unordered_members-members l =
    MembersSoFar (value l.depth) (members_view l.fn.before.entries) l.initial.reader l.reader (members_view l.found.entries)

abbrev pub decreases-read_unordered_members-members : goal.decreases-read_unordered_members-members
decreases-read_unordered_members-members l = length l.reader
