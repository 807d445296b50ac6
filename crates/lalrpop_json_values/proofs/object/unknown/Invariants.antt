use Rattle.std.proofs.Common.{◌≡◌, drop}
use Rattle.lalrpop_json_document.specs.DocumentViews.{members_view}
use Rattle.lalrpop_json_values.specs.Objects.{first_unknown, names}
use Rattle.lalrpop_json_values.proofs.object.unknown.Given as goal

abbrev pub invariant-loop-name : goal.invariant-loop-name
invariant-loop-name l =
    first_unknown l.wanted (names (members_view (drop l.name-index l.members.items)))
    ≡ first_unknown l.wanted (names (members_view l.members.items))
