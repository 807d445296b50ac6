use Rattle.std.proofs.Common.{Global, Some, Vec, ap, map}
use Rattle.std.specs.Option.{option_map}
use Rattle.lalrpop_grammar_symbols.specs.Views.{terminal_view}
use Rattle.lalrpop_lr1_core.specs.Views.{production_symbol_view}
use Rattle.lalrpop_lr1_first.specs.FirstSetsOf.{IsProductionOf}
use Rattle.lalrpop_lr1_least_trees.specs.MoveViews.{tree_move_view}
use Rattle.lalrpop_lr1_least_trees.specs.declared.tree_move.TreeMove.{TreeMove}
use Rattle.lalrpop_lr1_least_trees.specs.RestForests.{BeginsWith}
use Rattle.lalrpop_lr1_least_trees.proofs.SymbolLemmas.{begins_not, begin_rest_moves_of, leaf_moves, no_leaf}
use Rattle.lalrpop_lr1_least_trees.proofs.rest_trees.symbol.begin_symbol_moves.Goals as goal

pub returns-in_ok-only_shift-in-Terminal : goal.returns-in_ok-only_shift-in-Terminal
returns-in_ok-only_shift-in-Terminal c = λ g of.
    leaf_moves (IsProductionOf g) (production_symbol_view c.args.symbol.now) (terminal_view c.in-Terminal.own)
    (ap production_symbol_view c.in-Terminal.is) (BeginsWith (terminal_view c.args.terminal.now))
    (map tree_move_view c.in_ok-only_shift-in-Terminal.field-0.items) c.in_ok-only_shift-in-Terminal.ensures
    (ap (λ t. Some (terminal_view t)) (c.is_same_terminal.ensures.0 c.if-is_same_terminal.true))

pub returns-else-is_same_terminal : goal.returns-else-is_same_terminal
returns-else-is_same_terminal c = λ g of.
    let own = c.in-Terminal.own in
    let wanted = c.args.terminal.now in
    no_leaf (IsProductionOf g) (production_symbol_view c.args.symbol.now) (terminal_view own)
    (ap production_symbol_view c.in-Terminal.is) (BeginsWith (terminal_view wanted))
    (begins_not own wanted c.is_same_terminal.result c.is_same_terminal.ensures.1 c.if-is_same_terminal.false)

pub returns-in_ok-moves-in-Nonterminal : goal.returns-in_ok-moves-in-Nonterminal
returns-in_ok-moves-in-Nonterminal c = λ g of.
    let t = terminal_view c.args.terminal.now in
    begin_rest_moves_of (IsProductionOf g) (production_symbol_view c.args.symbol.now) c.in-Nonterminal.name.0
    (ap production_symbol_view c.in-Nonterminal.is) t
    (option_map (λ (v : Vec TreeMove Global). map tree_move_view v.items) c.in_ok-moves-in-Nonterminal.moves)
    (c.in_ok-moves-in-Nonterminal.ensures g t of c.requires.wanted)
