use Rattle.std.proofs.Common.{[], ◌∷◌, ap, false, true}
use Rattle.lalrpop_grammar_symbols.specs.Views.{terminal_view}
use Rattle.lalrpop_lr1_core.specs.Views.{production_symbol_view}
use Rattle.lalrpop_lr1_first.specs.FirstSetsOf.{IsProductionOf}
use Rattle.lalrpop_lr1_least_trees.specs.RestForests.{LeavesOfKind}
use Rattle.lalrpop_lr1_least_trees.proofs.SymbolLemmas.{any_kind, kind_count, leaf_count, no_kind, no_leaf}
use Rattle.lalrpop_lr1_least_trees.proofs.rest_trees.symbol.symbol_count.Goals as goal

pub returns-then-leaves : goal.returns-then-leaves
returns-then-leaves c = λ g of.
    let t = terminal_view c.in-Terminal.field-0 in
    leaf_count (IsProductionOf g) (production_symbol_view c.args.symbol.now) t (ap production_symbol_view c.in-Terminal.is)
    (LeavesOfKind c.args.leaves) (any_kind c.args.leaves (t ∷ []) c.if-leaves.true)

pub returns-else-leaves : goal.returns-else-leaves
returns-else-leaves c = λ g of.
    let t = terminal_view c.in-Terminal.field-0 in
    no_leaf (IsProductionOf g) (production_symbol_view c.args.symbol.now) t (ap production_symbol_view c.in-Terminal.is)
    (LeavesOfKind c.args.leaves) (no_kind c.args.leaves t c.if-leaves.false)

pub returns-then-leaves-2 : goal.returns-then-leaves-2
returns-then-leaves-2 c = λ g of.
    kind_count (IsProductionOf g) (production_symbol_view c.args.symbol.now) c.in-Nonterminal.name.0
    (ap production_symbol_view c.in-Nonterminal.is) c.args.leaves true c.if-leaves-2.true c.count.result (c.count.ensures g of)

pub returns-else-leaves-2 : goal.returns-else-leaves-2
returns-else-leaves-2 c = λ g of.
    kind_count (IsProductionOf g) (production_symbol_view c.args.symbol.now) c.in-Nonterminal.name.0
    (ap production_symbol_view c.in-Nonterminal.is) c.args.leaves false c.if-leaves-2.false c.empty_count.result
    (c.empty_count.ensures g of)
