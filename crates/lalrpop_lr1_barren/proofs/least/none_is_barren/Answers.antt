use Rattle.lalrpop_lr1_first.specs.NumberedGrammars.{IsSeenIn, table_productions}
use Rattle.lalrpop_lr1_barren.proofs.BarrenLemmas.{none_is_found}
use Rattle.lalrpop_lr1_barren.proofs.least.none_is_barren.Goals as goal

pub returns : goal.returns
returns c =
    none_is_found (IsSeenIn (table_productions c.args.table.now)) c.args.start.now.0 c.in_ok-least.least c.is_none.result
    c.is_none.ensures c.in_ok-least.ensures
