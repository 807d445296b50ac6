use Rattle.lalrpop_norm_theory.proofs.LeveledRuleLemmas.{bares_of-leveled}
use Rattle.lalrpop_norm_theory.proofs.ResolvedLevelLemmas.{leveled_resolved}
use Rattle.lalrpop_norm_theory.proofs.LevelShapeLemmas.{leveled_flat, public_as_written, without_levels_stays}
use Rattle.lalrpop_norm_theory.proofs.level_laws.levels_leave_resolved.Goals as goal

pub returns-clause-resolved : goal.returns-clause-resolved
returns-clause-resolved c = λ finds g f w. leveled_resolved finds g f w (bares_of-leveled f g.items)

pub returns-clause-flat : goal.returns-clause-flat
returns-clause-flat c = λ finds g f q i. leveled_flat finds g f q i

pub returns-clause-public : goal.returns-clause-public
returns-clause-public c = λ finds g f w q i. public_as_written finds g f w q i

pub returns-clause-stays : goal.returns-clause-stays
returns-clause-stays c = λ finds g f h. without_levels_stays finds g f h
