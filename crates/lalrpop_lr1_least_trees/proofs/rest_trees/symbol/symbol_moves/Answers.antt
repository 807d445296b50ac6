use Rattle.std.proofs.Common.{[], ◌∷◌, Global, Vec, ap, false, map, true}
use Rattle.std.specs.Option.{option_map}
use Rattle.lalrpop_grammar_symbols.specs.Views.{terminal_view}
use Rattle.lalrpop_lr1_core.specs.Views.{production_symbol_view}
use Rattle.lalrpop_lr1_first.specs.FirstSetsOf.{IsProductionOf}
use Rattle.lalrpop_lr1_least_trees.specs.MoveViews.{tree_move_view}
use Rattle.lalrpop_lr1_least_trees.specs.declared.tree_move.TreeMove.{TreeMove}
use Rattle.lalrpop_lr1_least_trees.specs.RestForests.{LeavesOfKind}
use Rattle.lalrpop_lr1_least_trees.proofs.SymbolLemmas.{any_kind, kind_moves, leaf_moves, no_kind, no_leaf}
use Rattle.lalrpop_lr1_least_trees.proofs.rest_trees.symbol.symbol_moves.Goals as goal

pub returns-in_ok-only_shift-in-Terminal : goal.returns-in_ok-only_shift-in-Terminal
returns-in_ok-only_shift-in-Terminal c = λ g of.
    let t = terminal_view c.in-Terminal.terminal in
    leaf_moves (IsProductionOf g) (production_symbol_view c.args.symbol.now) t (ap production_symbol_view c.in-Terminal.is)
    (LeavesOfKind c.args.leaves) (map tree_move_view c.in_ok-only_shift-in-Terminal.field-0.items)
    c.in_ok-only_shift-in-Terminal.ensures (any_kind c.args.leaves (t ∷ []) c.if-leaves.true)

pub returns-else-leaves : goal.returns-else-leaves
returns-else-leaves c = λ g of.
    let t = terminal_view c.in-Terminal.terminal in
    no_leaf (IsProductionOf g) (production_symbol_view c.args.symbol.now) t (ap production_symbol_view c.in-Terminal.is)
    (LeavesOfKind c.args.leaves) (no_kind c.args.leaves t c.if-leaves.false)

pub returns-in_ok-moves-in-Nonterminal : goal.returns-in_ok-moves-in-Nonterminal
returns-in_ok-moves-in-Nonterminal c = λ g of.
    kind_moves (IsProductionOf g) (production_symbol_view c.args.symbol.now) c.in-Nonterminal.name.0
    (ap production_symbol_view c.in-Nonterminal.is) c.args.leaves true c.if-leaves-2.true
    (option_map (λ (v : Vec TreeMove Global). map tree_move_view v.items) c.in_ok-moves-in-Nonterminal.moves)
    (c.in_ok-moves-in-Nonterminal.ensures g of)

pub returns-in_ok-moves-in-Nonterminal-2 : goal.returns-in_ok-moves-in-Nonterminal-2
returns-in_ok-moves-in-Nonterminal-2 c = λ g of.
    kind_moves (IsProductionOf g) (production_symbol_view c.args.symbol.now) c.in-Nonterminal.name.0
    (ap production_symbol_view c.in-Nonterminal.is) c.args.leaves false c.if-leaves-2.false
    (option_map (λ (v : Vec TreeMove Global). map tree_move_view v.items) c.in_ok-moves-in-Nonterminal-2.moves)
    (c.in_ok-moves-in-Nonterminal-2.ensures g of)
