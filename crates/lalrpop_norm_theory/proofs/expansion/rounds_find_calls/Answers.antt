use Rattle.lalrpop_norm_theory.proofs.DepthLemmas.{before_rounds, one_deeper, left_too_deep, all_calls_found, none_too_deep}
use Rattle.lalrpop_norm_theory.proofs.expansion.rounds_find_calls.Goals as goal

pub returns-clause-begin : goal.returns-clause-begin
returns-clause-begin c = λ g next chains complete. before_rounds g next chains complete

pub returns-clause-deepen : goal.returns-clause-deepen
returns-clause-deepen c = λ g depth walked next found a r. one_deeper g depth walked next found a r

pub returns-clause-left : goal.returns-clause-left
returns-clause-left c = λ g depth walked next a x h. left_too_deep g depth walked next a x h

pub returns-clause-found : goal.returns-clause-found
returns-clause-found c = λ g depth walked a k x h. all_calls_found g depth walked a k x h

pub returns-clause-none : goal.returns-clause-none
returns-clause-none c = λ g depth limit walked le a x h. none_too_deep g depth limit walked le a x h
