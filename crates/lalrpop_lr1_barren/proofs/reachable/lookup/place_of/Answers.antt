use Rattle.lalrpop_grammar_symbols.specs.contracts.names.NonterminalStringOrd.TheImpl as names_order
use Rattle.lalrpop_grammar_symbols.specs.contracts.names.NonterminalStringOrd.TheImpl.Laws.{total-law}
use Rattle.lalrpop_lr1_first.proofs.OrderLemmas.{exact_name}
use Rattle.lalrpop_lr1_barren.proofs.SearchLemmas.{search_found, search_missed}
use Rattle.lalrpop_lr1_barren.proofs.reachable.lookup.place_of.Goals as goal

pub returns-in-Ok : goal.returns-in-Ok
returns-in-Ok c =
    search_found (names_order.ghosts).cmp exact_name total-law c.args.names.now c.requires c.args.name.now c.binary_search.result
    c.binary_search.ensures.bound c.binary_search.ensures.position c.in-Ok.place c.in-Ok.is

pub returns-in-Err : goal.returns-in-Err
returns-in-Err c =
    search_missed (names_order.ghosts).cmp exact_name total-law c.args.names.now c.requires c.args.name.now c.binary_search.result
    c.binary_search.ensures.position c.in-Err.field-0 c.in-Err.is
