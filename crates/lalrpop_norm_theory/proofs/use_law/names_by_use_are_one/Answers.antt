use Rattle.lalrpop_norm_theory.proofs.NamesByUseLemmas.{names_one}
use Rattle.lalrpop_norm_theory.proofs.use_law.names_by_use_are_one.Goals as goal

pub returns : goal.returns
returns c = λ text_of prefix g m n single v w x i. names_one text_of prefix g m n single v w x i
