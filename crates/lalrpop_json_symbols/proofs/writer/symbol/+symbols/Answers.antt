use Rattle.lalrpop_json_symbols.specs.Spelling.{symbol_json}
use Rattle.lalrpop_json_symbols.proofs.ListLemmas.{all_listed, first_more}
use Rattle.lalrpop_json_symbols.proofs.writer.symbol.+symbols.Goals as goal

pub symbols_value-loop-symbol-preserved : goal.symbols_value-loop-symbol-preserved
symbols_value-loop-symbol-preserved t c =
    first_more symbol_json c.args.symbols.now c.loop-symbol.values.items c.push.new.self.items c.loop-symbol.symbol-index
    c.symbol-item.result
    c.in_ok-symbol_value.field-0 c.loop-symbol-test.true c.symbol-item.is c.in_ok-symbol_value.ensures c.in_ok-push.ensures.items
    c.loop-symbol.invariant

pub symbols_value-returns : goal.symbols_value-returns
symbols_value-returns t c =
    all_listed symbol_json c.args.symbols.now c.loop-symbol.values c.loop-symbol.symbol-index c.loop-symbol-test.false
    c.loop-symbol.invariant
