use Rattle.lalrpop_json_items.specs.Spelling.{contents_json}
use Rattle.lalrpop_json_symbols.proofs.ListLemmas.{all_listed, first_more}
use Rattle.lalrpop_json_items.proofs.writer.match_block.groups_value.Goals as goal

pub loop-group-preserved : goal.loop-group-preserved
loop-group-preserved c =
    first_more contents_json c.args.groups.now c.loop-group.values.items c.push.new.self.items c.loop-group.group-index c.group-item.result
    c.in_ok-group_value.field-0 c.loop-group-test.true c.group-item.is c.in_ok-group_value.ensures c.in_ok-push.ensures.items
    c.loop-group.invariant

pub returns : goal.returns
returns c =
    all_listed contents_json c.args.groups.now c.loop-group.values c.loop-group.group-index c.loop-group-test.false c.loop-group.invariant
