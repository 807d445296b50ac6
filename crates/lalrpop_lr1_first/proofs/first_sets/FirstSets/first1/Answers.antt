use Rattle.std.proofs.Common.{◌∙◌, ap, map, true}
use Rattle.lalrpop_sets.specs.Tokens.{eof_number}
use Rattle.lalrpop_lr1_core.specs.Views.{production_symbol_view}
use Rattle.lalrpop_lr1_first.specs.Flows.{comes}
use Rattle.lalrpop_lr1_first.proofs.NamedFirstLemmas.{first_is_before}
use Rattle.lalrpop_lr1_first.proofs.first_sets.FirstSets.first1.Goals as goal

pub returns-clause-first : goal.returns-clause-first
returns-clause-first c = λ g are same. first_is_before g c.args.self.now are (map production_symbol_view c.args.symbols.now)
    c.in_ok-first.first c.args.lookahead.now c.in_ok-set.set (c.in_ok-first.ensures.first g are same)
    (λ k. c.in_ok-set.ensures.joined k ∙ ap (λ ts. comes true (eof_number ts) c.in_ok-first.first c.args.lookahead.now k) same)
