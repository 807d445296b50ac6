use Rattle.std.proofs.Common.{◌≡◌}
use Rattle.std.specs.Vec.Iter.{into_iter_items}
use Rattle.serde_json.specs.Data.{no_members}
use Rattle.lalrpop_json_document.specs.DocumentViews.{members_view}
use Rattle.lalrpop_json_document.specs.MemberOrder.{put_all}
use Rattle.lalrpop_json_document.proofs.reader.members.map_of.Given as goal

abbrev pub invariant-loop-key : goal.invariant-loop-key
invariant-loop-key l =
    put_all (members_view (into_iter_items l.key-iterator)) (members_view l.found.entries)
    ≡ put_all (members_view l.fn.members.items) no_members
