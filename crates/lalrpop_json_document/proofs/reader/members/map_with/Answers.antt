use Rattle.std.proofs.Common.{◌∙◌, ap}
use Rattle.serde_json.specs.Data.{put}
use Rattle.lalrpop_json_document.specs.DocumentViews.{members_view, view}
use Rattle.lalrpop_json_document.proofs.MemberOrderLemmas.{inserted}
use Rattle.lalrpop_json_document.proofs.reader.members.map_with.Goals as goal

pub returns : goal.returns
returns c =
    ap members_view c.in_ok-insert.ensures.entries ∙ inserted c.in_ok-found.found.entries c.args.key c.args.value
    ∙ ap (put c.args.key.now (view c.args.value)) c.in_ok-found.ensures
