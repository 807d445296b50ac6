use Rattle.lalrpop_norm_theory.proofs.PassLemmas.{SameExpansion-trans, SameExpansion-alike, productions_before}
use Rattle.lalrpop_norm_theory.proofs.expansion.passes_compose.Goals as goal

pub returns-clause-composed : goal.returns-clause-composed
returns-clause-composed c = λ g h k f e a b. SameExpansion-trans g h k f e a b

pub returns-clause-alike : goal.returns-clause-alike
returns-clause-alike c = λ g h m b. SameExpansion-alike g h m b

pub returns-clause-productions : goal.returns-clause-productions
returns-clause-productions c = λ g h to name_of productions origins s a. productions_before g h to name_of productions origins s a
