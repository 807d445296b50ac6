use Rattle.lalrpop_norm_theory.proofs.NumberingLemmas.{numbered_productions}
use Rattle.lalrpop_norm_theory.proofs.expansion.productions_are_numbered.Goals as goal

pub returns : goal.returns
returns c = λ g name_of rows a. numbered_productions g name_of rows a
