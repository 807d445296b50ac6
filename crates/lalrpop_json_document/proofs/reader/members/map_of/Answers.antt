use Rattle.lalrpop_json_document.proofs.MemberOrderLemmas.{put_next}
use Rattle.lalrpop_json_document.proofs.reader.members.map_of.Goals as goal

pub loop-key-preserved : goal.loop-key-preserved
loop-key-preserved c =
    put_next _ _ (c.in-Some.key, c.in-Some.value) c.loop-key.found.entries _ _ c.in-Some.ensures.steps.0 c.in_ok-insert.ensures.entries
    c.loop-key.invariant
