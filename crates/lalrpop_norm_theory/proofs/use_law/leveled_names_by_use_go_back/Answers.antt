use Rattle.lalrpop_norm_theory.proofs.LeveledNamingLemmas.{naming_by_use_back}
use Rattle.lalrpop_norm_theory.proofs.use_law.leveled_names_by_use_go_back.Goals as goal

pub returns : goal.returns
returns c = λ finds g f prefix name_of w tells plain v. naming_by_use_back finds g f w plain name_of prefix tells v
