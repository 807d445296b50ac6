use Rattle.lalrpop_norm_theory.proofs.LevelShapeLemmas.{sides}
use Rattle.lalrpop_norm_theory.proofs.level_laws.sides_count.Goals as goal

pub returns : goal.returns
returns c = λ t. sides t
