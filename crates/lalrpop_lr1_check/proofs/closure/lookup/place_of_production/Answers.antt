use Rattle.lalrpop_grammar_repr.specs.contracts.production.ProductionOrd.TheImpl as production_order
use Rattle.lalrpop_grammar_repr.specs.contracts.production.ProductionOrd.TheImpl.Laws.{total-law}
use Rattle.lalrpop_lr1_first.proofs.OrderLemmas.{exact_production}
use Rattle.lalrpop_lr1_barren.proofs.SearchLemmas.{search_found, search_missed}
use Rattle.lalrpop_lr1_check.proofs.closure.lookup.place_of_production.Goals as goal

pub returns-in-Ok : goal.returns-in-Ok
returns-in-Ok c =
    search_found (production_order.ghosts).cmp exact_production total-law c.args.productions.now c.requires c.args.production.now
    c.binary_search.result
    c.binary_search.ensures.bound c.binary_search.ensures.position c.in-Ok.place c.in-Ok.is

pub returns-in-Err : goal.returns-in-Err
returns-in-Err c =
    search_missed (production_order.ghosts).cmp exact_production total-law c.args.productions.now c.requires c.args.production.now
    c.binary_search.result
    c.binary_search.ensures.position c.in-Err.field-0 c.in-Err.is
