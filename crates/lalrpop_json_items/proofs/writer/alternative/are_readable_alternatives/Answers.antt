use Rattle.std.proofs.Common.{rules}
use Rattle.lalrpop_json_items.specs.Readable.{IsReadableAlternative}
use Rattle.lalrpop_json_symbols.proofs.EachLemmas.{each_goes_on, each_stops}
use Rattle.lalrpop_json_items.proofs.writer.alternative.are_readable_alternatives.Goals as goal

pub returns-then-not-is_readable_alternative : goal.returns-then-not-is_readable_alternative
returns-then-not-is_readable_alternative c =
    each_stops (IsReadableAlternative c.args.rule.now) c.args.alternatives.now c.is_readable_alternative.result c.loop-place.place
    c.index-alternatives-place.result
    c.loop-place-test.true c.index-alternatives-place.is c.is_readable_alternative.ensures (search rules) c.loop-place.invariant

pub loop-place-preserved : goal.loop-place-preserved
loop-place-preserved c =
    each_goes_on (IsReadableAlternative c.args.rule.now) c.args.alternatives.now c.is_readable_alternative.result c.loop-place.place
    c.index-alternatives-place.result
    c.loop-place-test.true c.index-alternatives-place.is c.is_readable_alternative.ensures (search rules) c.loop-place.invariant
