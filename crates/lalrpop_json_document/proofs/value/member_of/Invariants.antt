use Rattle.std.proofs.Common.{◌≡◌, drop}
use Rattle.serde_json.specs.Find.{get_member}
use Rattle.lalrpop_json_document.specs.DocumentViews.{members_view}
use Rattle.lalrpop_json_document.proofs.value.member_of.Given as goal

abbrev pub invariant-loop-name : goal.invariant-loop-name
invariant-loop-name l =
    get_member l.key (members_view (drop l.name-index l.members.items)) ≡ get_member l.key (members_view l.members.items)
