use Rattle.lalrpop_lane_tables.specs.ColumnAnswers.{GathersApart}
use Rattle.lalrpop_lane_tables.proofs.InsertLemmas.{ColumnsBelow}
use Rattle.lalrpop_lane_tables.proofs.context_sets.insert_sets.Given as goal

abbrev pub invariant-loop-index : goal.invariant-loop-index
invariant-loop-index l = GathersApart (ColumnsBelow l.sets l.index) l.initial.columns l.columns
