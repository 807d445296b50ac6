use Rattle.std.proofs.Common.{map, refl}
use Rattle.lalrpop_lr1_core.specs.Views.{production_symbol_view}
use Rattle.lalrpop_lr1_check_lookaheads.proofs.RestLemmas.{nothing_is}
use Rattle.lalrpop_lr1_check_lookaheads.proofs.lookaheads.rests.is_nothing.Goals as goal

pub returns : goal.returns
returns c =
    nothing_is c.args.grammar.now (map production_symbol_view c.args.rest.now) c.in_ok-set.set c.contains_eof.result
    (c.in_ok-set.ensures.first c.args.grammar.now c.requires refl) c.contains_eof.ensures
