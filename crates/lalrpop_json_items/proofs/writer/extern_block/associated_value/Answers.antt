use Rattle.lalrpop_json_items.specs.Spelling.{associated_json}
use Rattle.lalrpop_json_symbols.proofs.ListLemmas.{all_listed, first_more}
use Rattle.lalrpop_json_items.proofs.writer.extern_block.associated_value.Goals as goal

pub loop-declared-preserved : goal.loop-declared-preserved
loop-declared-preserved c =
    first_more associated_json c.args.associated.now c.loop-declared.values.items c.push.new.self.items c.loop-declared.declared-index
    c.declared-item.result
    c.in_ok-associated_type_value.field-0 c.loop-declared-test.true c.declared-item.is c.in_ok-associated_type_value.ensures
    c.in_ok-push.ensures.items
    c.loop-declared.invariant

pub returns : goal.returns
returns c =
    all_listed associated_json c.args.associated.now c.loop-declared.values c.loop-declared.declared-index c.loop-declared-test.false
    c.loop-declared.invariant
