use Rattle.std.proofs.Common.{rules, subst, sym, take}
use Rattle.lalrpop_lr1_first.specs.Listings.{lent}
use Rattle.lalrpop_lr1_first.specs.Tables.{LaysSymbols}
use Rattle.lalrpop_lr1_first.proofs.AddLemmas.{taken_more}
use Rattle.lalrpop_lr1_first.proofs.LayingLemmas.{lays_more}
use Rattle.lalrpop_lr1_first.proofs.laying.lay_symbols.Goals as goal

pub loop-symbol-preserved : goal.loop-symbol-preserved
loop-symbol-preserved c =
    let names = lent c.args.names.now.listed.items in
    let ts = c.args.terminals.now in
    let i = c.loop-symbol.symbol-index in
    let xs = c.args.symbols.now in
    subst (LaysSymbols names ts c.args.places.now.items c.push.new.self.items)
    (sym (taken_more xs i c.symbol-item.result c.loop-symbol-test.true c.symbol-item.is))
    (lays_more names ts c.args.places.now.items c.loop-symbol.places.items c.push.new.self.items (take i xs) c.symbol-item.result
    c.symbol_number.result c.loop-symbol.invariant c.symbol_number.ensures (search rules))
