use Rattle.std.proofs.Common.{Some, ap}
use Rattle.lalrpop_grammar_symbols.specs.Views.{terminal_view}
use Rattle.lalrpop_lr1_core.specs.Views.{production_symbol_view}
use Rattle.lalrpop_lr1_first.specs.FirstSetsOf.{IsProductionOf}
use Rattle.lalrpop_lr1_least_trees.specs.RestForests.{BeginsWith}
use Rattle.lalrpop_lr1_least_trees.proofs.SymbolLemmas.{begins_not, begin_rest_count_of, leaf_count, no_leaf}
use Rattle.lalrpop_lr1_least_trees.proofs.rest_trees.symbol.begin_symbol_count.Goals as goal

pub returns-then-is_same_terminal : goal.returns-then-is_same_terminal
returns-then-is_same_terminal c = λ g of.
    leaf_count (IsProductionOf g) (production_symbol_view c.args.symbol.now) (terminal_view c.in-Terminal.own)
    (ap production_symbol_view c.in-Terminal.is) (BeginsWith (terminal_view c.args.terminal.now))
    (ap (λ t. Some (terminal_view t)) (c.is_same_terminal.ensures.0 c.if-is_same_terminal.true))

pub returns-else-is_same_terminal : goal.returns-else-is_same_terminal
returns-else-is_same_terminal c = λ g of.
    let own = c.in-Terminal.own in
    let wanted = c.args.terminal.now in
    no_leaf (IsProductionOf g) (production_symbol_view c.args.symbol.now) (terminal_view own)
    (ap production_symbol_view c.in-Terminal.is) (BeginsWith (terminal_view wanted))
    (begins_not own wanted c.is_same_terminal.result c.is_same_terminal.ensures.1 c.if-is_same_terminal.false)

pub returns-in-Nonterminal : goal.returns-in-Nonterminal
returns-in-Nonterminal c = λ g of.
    let t = terminal_view c.args.terminal.now in
    begin_rest_count_of (IsProductionOf g) (production_symbol_view c.args.symbol.now) c.in-Nonterminal.name.0
    (ap production_symbol_view c.in-Nonterminal.is) t c.count.result (c.count.ensures g t of c.requires.wanted)
