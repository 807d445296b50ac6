use Rattle.std.proofs.Common.{map}
use Rattle.lalrpop_grammar_symbols.specs.Views.{terminal_view}
use Rattle.lalrpop_lr1_core.specs.Views.{production_symbol_view}
use Rattle.lalrpop_lr1_first.specs.FirstSetsOf.{IsProductionOf}
use Rattle.lalrpop_lr1_least_trees.proofs.RestLemmas.{place_count}
use Rattle.lalrpop_lr1_least_trees.proofs.rest_trees.begin_rest.begin_rest_count.Goals as goal

pub returns-in-Some : goal.returns-in-Some
returns-in-Some c = λ g of.
    place_count (IsProductionOf g) (terminal_view c.args.terminal.now) (map production_symbol_view c.args.symbols.now) 0 c.in-Some.found
    (c.in-Some.ensures.place g of)
