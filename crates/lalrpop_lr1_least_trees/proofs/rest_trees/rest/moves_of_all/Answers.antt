use Rattle.std.proofs.Common.{◌∙◌, ◌+◌, [], ◌∷◌, Global, Vec, ap, map, subst, sym, take}
use Rattle.std.proofs.lemmas.List.{map-append}
use Rattle.lalrpop_lr1_core.specs.Views.{production_symbol_view}
use Rattle.lalrpop_lr1_first.specs.FirstSetsOf.{IsProductionOf}
use Rattle.lalrpop_lr1_least_trees.specs.MoveViews.{tree_move_view}
use Rattle.lalrpop_lr1_least_trees.specs.declared.tree_move.TreeMove.{TreeMove}
use Rattle.lalrpop_lr1_least_trees.specs.RestForests.{AreRestMoves, LeavesOfKind}
use Rattle.lalrpop_lr1_least_trees.proofs.RestLemmas.{nothing_moves}
use Rattle.lalrpop_lr1_least_trees.proofs.PlaceLemmas.{moves_more, none_at, views_whole}
use Rattle.lalrpop_lr1_least_trees.proofs.SymbolLemmas.{moves_missing, moves_there}
use Rattle.lalrpop_lr1_least_trees.proofs.rest_trees.rest.moves_of_all.Goals as goal

pub loop-symbol-init : goal.loop-symbol-init
loop-symbol-init c = λ g of.
    subst (λ l. AreRestMoves (IsProductionOf g) [] (LeavesOfKind c.args.leaves) (map tree_move_view l)) (sym c.new-all.ensures.items)
    (nothing_moves (IsProductionOf g) c.args.leaves)

pub returns-in-None : goal.returns-in-None
returns-in-None c = λ g of.
    none_at production_symbol_view c.args.symbols.now c.loop-symbol.symbol-index c.symbol-item.result c.loop-symbol-test.true
    c.symbol-item.is (IsProductionOf g) c.args.leaves
    (moves_missing (IsProductionOf g) (production_symbol_view c.symbol-item.result ∷ []) (LeavesOfKind c.args.leaves)
    (λ (v : Vec TreeMove Global). map tree_move_view v.items) c.in_ok-symbol_moves.field-0 (c.in_ok-symbol_moves.ensures g of)
    c.in-None.is)

pub loop-symbol-preserved : goal.loop-symbol-preserved
loop-symbol-preserved c = λ g of.
    let old = c.loop-symbol.all.items in
    let more = c.in-Some.moves.items in
    subst
    (λ ms. AreRestMoves (IsProductionOf g) (map production_symbol_view (take (c.loop-symbol.symbol-index + 1) c.args.symbols.now))
    (LeavesOfKind c.args.leaves) ms)
    (sym (ap (map tree_move_view) c.in_ok-append-in-Some.ensures.items ∙ map-append tree_move_view old more))
    (moves_more production_symbol_view c.args.symbols.now c.loop-symbol.symbol-index c.symbol-item.result c.loop-symbol-test.true
    c.symbol-item.is (IsProductionOf g) c.args.leaves (map tree_move_view old) (map tree_move_view more) (c.loop-symbol.invariant g of)
    (moves_there (IsProductionOf g) (production_symbol_view c.symbol-item.result ∷ []) (LeavesOfKind c.args.leaves)
    (λ (v : Vec TreeMove Global). map tree_move_view v.items) c.in_ok-symbol_moves.field-0 (c.in_ok-symbol_moves.ensures g of)
    c.in-Some.moves c.in-Some.is))

pub returns : goal.returns
returns c = λ g of.
    subst (λ l. AreRestMoves (IsProductionOf g) l (LeavesOfKind c.args.leaves) (map tree_move_view c.loop-symbol.all.items))
    (views_whole production_symbol_view c.args.symbols.now c.loop-symbol.symbol-index c.loop-symbol-test.false)
    (c.loop-symbol.invariant g of)
