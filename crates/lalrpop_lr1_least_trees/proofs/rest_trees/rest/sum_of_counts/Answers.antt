use Rattle.std.proofs.Common.{subst}
use Rattle.lalrpop_lr1_core.specs.Views.{production_symbol_view}
use Rattle.lalrpop_lr1_first.specs.FirstSetsOf.{IsProductionOf}
use Rattle.lalrpop_lr1_least_trees.specs.RestForests.{IsRestCount, LeavesOfKind}
use Rattle.lalrpop_lr1_least_trees.proofs.RestLemmas.{nothing_count}
use Rattle.lalrpop_lr1_least_trees.proofs.PlaceLemmas.{count_more, none_at, views_whole}
use Rattle.lalrpop_lr1_least_trees.proofs.rest_trees.rest.sum_of_counts.Goals as goal

pub loop-symbol-init : goal.loop-symbol-init
loop-symbol-init c = λ g of. nothing_count (IsProductionOf g) c.args.leaves

pub returns-in-None : goal.returns-in-None
returns-in-None c = λ g of.
    none_at production_symbol_view c.args.symbols.now c.loop-symbol.symbol-index c.symbol-item.result c.loop-symbol-test.true
    c.symbol-item.is (IsProductionOf g) c.args.leaves (c.in-None.ensures g of)

pub loop-symbol-preserved : goal.loop-symbol-preserved
loop-symbol-preserved c = λ g of.
    count_more production_symbol_view c.args.symbols.now c.loop-symbol.symbol-index c.symbol-item.result c.loop-symbol-test.true
    c.symbol-item.is (IsProductionOf g) c.args.leaves c.loop-symbol.count c.in-Some.more c.saturating_add-count.result
    (c.loop-symbol.invariant g of) (c.in-Some.ensures g of) c.saturating_add-count.ensures

pub returns : goal.returns
returns c = λ g of.
    subst (λ l. IsRestCount (IsProductionOf g) l (LeavesOfKind c.args.leaves) c.loop-symbol.count)
    (views_whole production_symbol_view c.args.symbols.now c.loop-symbol.symbol-index c.loop-symbol-test.false)
    (c.loop-symbol.invariant g of)
