use Rattle.lalrpop_norm_theory.proofs.BetweenLemmas.{rules_left, bares_left}
use Rattle.lalrpop_norm_theory.proofs.expansion.enabled_rules_are_left.Goals as goal

pub returns-clause-rules : goal.returns-clause-rules
returns-clause-rules c = λ finds features g w. rules_left features g.items w.items

pub returns-clause-bares : goal.returns-clause-bares
returns-clause-bares c = λ finds features g. bares_left features g.items
