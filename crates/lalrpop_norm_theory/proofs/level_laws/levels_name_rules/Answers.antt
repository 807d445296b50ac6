use Rattle.lalrpop_norm_theory.proofs.PackedNameLemmas.{names_packed}
use Rattle.lalrpop_norm_theory.proofs.level_laws.levels_name_rules.Goals as goal

pub returns : goal.returns
returns c = λ finds g f w plain. names_packed finds g f w plain
