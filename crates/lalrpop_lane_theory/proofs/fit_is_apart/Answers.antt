use Rattle.lalrpop_lane_theory.specs.LaneTables.{HasNextIn}
use Rattle.lalrpop_lane_theory.proofs.ColumnLemmas.{fit_apart}
use Rattle.lalrpop_lane_theory.proofs.fit_is_apart.Goals as goal

pub returns : goal.returns
returns c = λ entries. fit_apart HasNextIn entries
