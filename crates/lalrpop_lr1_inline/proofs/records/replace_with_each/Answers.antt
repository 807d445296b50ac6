use Rattle.std.proofs.Common.{◌+◌, drop, map}
use Rattle.lalrpop_grammar_repr.specs.declared.action.InlinedSymbol.TheVariants as inlined
use Rattle.lalrpop_lr1_inline.proofs.RecordLemmas.{item_front, longer_on}
use Rattle.lalrpop_lr1_inline.proofs.records.replace_with_each.Goals as goal

pub loop-front-preserved : goal.loop-front-preserved
loop-front-preserved c =
    let xs = c.args.fronts.now in
    let i = c.loop-front.front-index in
    longer_on c.loop-front.longer.items c.add_each.new.longer.items (drop i xs) (drop (i + 1) xs) _ c.front-item.result
    (map (λ p. inlined.Inlined p.action p.symbols) c.args.productions.now)
    (item_front xs i c.front-item.result c.loop-front-test.true c.front-item.is) (rw c.as_slice.ensures at c.in_ok-add_each.ensures)
    c.loop-front.invariant
