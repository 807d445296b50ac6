use Rattle.std.proofs.Common.{Contains}
use Rattle.lalrpop_lr1_theory.specs.States.{HasEdge, HasItem}
use Rattle.lalrpop_lane_theory.specs.LaneTables.{HasNextIn}
use Rattle.lalrpop_lane_theory.proofs.ColumnLemmas.{columns_apart, fit_apart}
use Rattle.lalrpop_lane_theory.proofs.columns_succeed.Goals as goal

pub returns : goal.returns
returns c = λ grammar s states alone reached none n moves entries are traced.
    (fit_apart HasNextIn entries).1
    (columns_apart (Contains grammar) s (HasItem states) (HasEdge states) reached alone none n moves entries are traced)
