use Rattle.lalrpop_lr1_barren.proofs.BarrenLemmas.{table_least}
use Rattle.lalrpop_lr1_barren.proofs.least.barren_nonterminal.Goals as goal

pub returns : goal.returns
returns c =
    table_least c.args.grammar.now c.in_ok-table.table c.in_ok-table.ensures c.args.start.now.0 c.in_ok-found.found
    c.in_ok-found.ensures
