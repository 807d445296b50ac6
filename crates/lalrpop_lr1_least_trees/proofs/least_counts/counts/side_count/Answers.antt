use Rattle.std.proofs.Common.{◌∙◌, ap, get_or, sym, take}
use Rattle.std.proofs.lemmas.List.{take_more}
use Rattle.lalrpop_lr1_least_trees.specs.Searches.{count_of, node_count}
use Rattle.lalrpop_lr1_least_trees.proofs.CountLemmas.{node_missing, node_more, read_there}
use Rattle.lalrpop_lr1_least_trees.proofs.least_counts.counts.side_count.Goals as goal

pub returns-in-None : goal.returns-in-None
returns-in-None c =
    let i = c.loop-symbol.symbol-index in
    let f = count_of c.args.leaves c.args.table.now in
    sym (node_missing f c.args.symbols.now (get_or c.args.symbols.now i 0) (read_there c.args.symbols.now i c.loop-symbol-test.true)
    (sym c.in-None.ensures))

pub loop-symbol-preserved : goal.loop-symbol-preserved
loop-symbol-preserved c =
    let i = c.loop-symbol.symbol-index in
    let xs = c.args.symbols.now in
    let f = count_of c.args.leaves c.args.table.now in
    ap (node_count f) (take_more xs i 0 c.loop-symbol-test.true)
    ∙ node_more f (take i xs) (get_or xs i 0) c.loop-symbol.count c.in-Some.more c.saturating_add-count.result c.loop-symbol.invariant
    (sym c.in-Some.ensures) c.saturating_add-count.ensures
