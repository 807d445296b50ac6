use Rattle.lalrpop_json_symbols.specs.Spelling.{type_json}
use Rattle.lalrpop_json_symbols.proofs.ListLemmas.{all_listed, first_more}
use Rattle.lalrpop_json_symbols.proofs.writer.type_ref.+types.Goals as goal

pub types_value-loop-declared-preserved : goal.types_value-loop-declared-preserved
types_value-loop-declared-preserved t c =
    first_more type_json c.args.types.now c.loop-declared.values.items c.push.new.self.items c.loop-declared.declared-index
    c.declared-item.result
    c.in_ok-type_value.field-0 c.loop-declared-test.true c.declared-item.is c.in_ok-type_value.ensures c.in_ok-push.ensures.items
    c.loop-declared.invariant

pub types_value-returns : goal.types_value-returns
types_value-returns t c =
    all_listed type_json c.args.types.now c.loop-declared.values c.loop-declared.declared-index c.loop-declared-test.false
    c.loop-declared.invariant
