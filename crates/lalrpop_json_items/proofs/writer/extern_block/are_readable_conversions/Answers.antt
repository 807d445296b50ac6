use Rattle.std.proofs.Common.{rules}
use Rattle.lalrpop_json_items.specs.Readable.{IsReadableConversion}
use Rattle.lalrpop_json_symbols.proofs.EachLemmas.{each_goes_on, each_stops}
use Rattle.lalrpop_json_items.proofs.writer.extern_block.are_readable_conversions.Goals as goal

pub returns-then-not-is_readable_terminal : goal.returns-then-not-is_readable_terminal
returns-then-not-is_readable_terminal c =
    each_stops (λ _. IsReadableConversion) c.args.conversions.now c.is_readable_terminal.result c.loop-conversion.conversion-index
    c.conversion-item.result
    c.loop-conversion-test.true c.conversion-item.is c.is_readable_terminal.ensures (search rules) c.loop-conversion.invariant

pub loop-conversion-preserved : goal.loop-conversion-preserved
loop-conversion-preserved c =
    each_goes_on (λ _. IsReadableConversion) c.args.conversions.now c.is_readable_terminal.result c.loop-conversion.conversion-index
    c.conversion-item.result
    c.loop-conversion-test.true c.conversion-item.is c.is_readable_terminal.ensures (search rules) c.loop-conversion.invariant
