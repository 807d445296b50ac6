use Rattle.lalrpop_norm_theory.proofs.LevelRuleLemmas.{close_leveled, close_list_leveled}
use Rattle.lalrpop_norm_theory.proofs.expansion.levels_keep_symbols.Goals as goal

pub returns-clause-symbol : goal.returns-clause-symbol
returns-clause-symbol c = λ f s t w k j x h. close_leveled f s t w k j x h

pub returns-clause-side : goal.returns-clause-side
returns-clause-side c = λ f s t w k j xs h. close_list_leveled f s t w k j xs h
