use Rattle.std.proofs.Common.{◌≡◌, drop}
use Rattle.lalrpop_json_document.specs.DocumentViews.{members_view}
use Rattle.lalrpop_json_values.specs.Objects.{are_named, names}
use Rattle.lalrpop_json_values.proofs.object.are_named.Given as goal

abbrev pub invariant-loop-name : goal.invariant-loop-name
invariant-loop-name l =
    are_named l.rest (names (members_view (drop l.name-index l.members.items))) ≡ are_named l.wanted (names (members_view l.members.items))
