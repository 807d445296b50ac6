use Rattle.std.proofs.Common.{ap, sym}
use Rattle.lalrpop_grammar_symbols.specs.Views.{terminal_view}
use Rattle.lalrpop_lr1_core.specs.Views.{production_symbol_view}
use Rattle.lalrpop_lr1_first.specs.FirstSetsOf.{IsProductionOf}
use Rattle.lalrpop_lr1_least_trees.proofs.OtherLemmas.{is_not, other_first}
use Rattle.lalrpop_lr1_least_trees.proofs.SymbolLemmas.{begins_not}
use Rattle.lalrpop_lr1_least_trees.proofs.rest_trees.begin_rest.begins_otherwise.Goals as goal

pub returns : goal.returns
returns c = λ yes g.
    let own = c.in-Some-Terminal.own in
    let wanted = c.args.terminal.now in
    let same = c.is_same_terminal in
    other_first production_symbol_view c.args.symbols.now c.in-Some-Terminal.field-0.now (IsProductionOf g) (terminal_view own)
    (terminal_view wanted) (sym c.in-Some-Terminal.ensures.value) (ap production_symbol_view c.in-Some-Terminal.field-0-is)
    (begins_not own wanted same.result same.ensures.1 (is_not same.result yes))
