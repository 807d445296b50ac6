use Rattle.lalrpop_json_items.specs.Spelling.{alternative_json}
use Rattle.lalrpop_json_symbols.proofs.ListLemmas.{all_listed, first_more}
use Rattle.lalrpop_json_items.proofs.writer.alternative.alternatives_value.Goals as goal

pub loop-alternative-preserved : goal.loop-alternative-preserved
loop-alternative-preserved c =
    first_more alternative_json c.args.alternatives.now c.loop-alternative.values.items c.push.new.self.items
    c.loop-alternative.alternative-index c.alternative-item.result
    c.in_ok-alternative_value.field-0 c.loop-alternative-test.true c.alternative-item.is c.in_ok-alternative_value.ensures
    c.in_ok-push.ensures.items
    c.loop-alternative.invariant

pub returns : goal.returns
returns c =
    all_listed alternative_json c.args.alternatives.now c.loop-alternative.values c.loop-alternative.alternative-index
    c.loop-alternative-test.false c.loop-alternative.invariant
