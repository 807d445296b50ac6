use Rattle.std.proofs.Common.{◌+◌, ◌∙◌, ap, drop, sym}
use Rattle.std.proofs.lemmas.List.{drop_all}
use Rattle.lalrpop_lr1_inline.specs.InliningSteps.{records_of}
use Rattle.lalrpop_lr1_inline.proofs.RecordLemmas.{item_front, records_behind, records_end, records_on, records_start}
use Rattle.lalrpop_lr1_inline.proofs.records.records.Goals as goal

pub loop-symbol-init : goal.loop-symbol-init
loop-symbol-init c =
    let whole = records_of c.args.name.now.0 c.args.productions.now c.args.symbols.now in
    ap (λ l. records_behind l whole) c.in_ok-fronts.ensures ∙ records_start whole

pub loop-symbol-preserved : goal.loop-symbol-preserved
loop-symbol-preserved c =
    let xs = c.args.symbols.now in
    let i = c.loop-symbol.symbol-index in
    records_on c.args.name.now.0 c.args.productions.now c.symbol-item.result (drop i xs) (drop (i + 1) xs)
    c.loop-symbol.fronts.items c.in_ok-fronts-2.fronts.items _
    (item_front xs i c.symbol-item.result c.loop-symbol-test.true c.symbol-item.is) c.in_ok-fronts-2.ensures
    c.loop-symbol.invariant

pub returns : goal.returns
returns c =
    let n = c.args.name.now.0 in
    let ps = c.args.productions.now in
    let xs = c.args.symbols.now in
    sym (records_end c.loop-symbol.fronts.items)
    ∙ ap (λ l. records_behind c.loop-symbol.fronts.items (records_of n ps l))
    (sym (drop_all c.loop-symbol.symbol-index xs c.loop-symbol-test.false))
    ∙ c.loop-symbol.invariant
