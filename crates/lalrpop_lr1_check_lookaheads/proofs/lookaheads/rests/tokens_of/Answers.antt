use Rattle.std.proofs.Common.{map, refl}
use Rattle.lalrpop_lr1_core.specs.Views.{production_symbol_view}
use Rattle.lalrpop_lr1_check_lookaheads.proofs.RestLemmas.{tokens_are}
use Rattle.lalrpop_lr1_check_lookaheads.proofs.lookaheads.rests.tokens_of.Goals as goal

pub returns : goal.returns
returns c =
    tokens_are c.args.grammar.now (map production_symbol_view c.args.rest.now) c.in_ok-set.set c.take_eof.new.self
    (c.in_ok-set.ensures.first c.args.grammar.now c.requires refl) c.take_eof.ensures.gone
