use Rattle.std.proofs.Common.{◌∙◌, sym}
use Rattle.lalrpop_json_values.proofs.MemberNameLemmas.{none_left}
use Rattle.lalrpop_json_values.proofs.object.are_named.Goals as goal

pub returns : goal.returns
returns c =
    c.is_empty.ensures
    ∙ sym (none_left c.args.members.now.items _ c.loop-name.rest.now c.loop-name.name-index c.deref-name-items.ensures.value c.loop-name-test.false)
    ∙ c.loop-name.invariant
