use Rattle.lalrpop_norm_theory.proofs.NameBackLemmas.{names_back}
use Rattle.lalrpop_norm_theory.proofs.back_laws.names_go_back.Goals as goal

pub returns : goal.returns
returns c = λ finds g f prefix name_of w tells plain h. names_back finds g f prefix name_of w tells plain h
