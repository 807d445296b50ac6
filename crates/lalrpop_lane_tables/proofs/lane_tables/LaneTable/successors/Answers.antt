use Rattle.std.proofs.Common.{◌↔◌, ℕ, Contains, IfNone, IfSome, subst}
use Rattle.lalrpop_lr1_core.specs.declared.state_index.StateIndex.{StateIndex}
use Rattle.lalrpop_lane_theory.specs.LaneTables.{NotesEdge}
use Rattle.lalrpop_lane_tables.specs.TableViews.{TableView}
use Rattle.lalrpop_lane_tables.proofs.RowLemmas.{noted_found, noted_missing}
use Rattle.lalrpop_lane_tables.proofs.lane_tables.LaneTable.successors.Goals as goal

pub returns-clause-some : goal.returns-clause-some
returns-clause-some c =
    subst (λ (t : TableView). IfSome c.get.result (λ states. (m : StateIndex) → Contains states.now.keys m ↔ NotesEdge t.noted c.args.state.0 m.0))
    c.self.view_is (noted_found c.self.inside.successors c.self.invariant.noted_ascend c.args.state c.get.result c.get.ensures)

pub returns-clause-none : goal.returns-clause-none
returns-clause-none c =
    subst (λ (t : TableView). IfNone c.get.result ((m : ℕ) → NotesEdge t.noted c.args.state.0 m → ⊥)) c.self.view_is
    (noted_missing c.self.inside.successors c.self.invariant.noted_ascend c.args.state c.get.result c.get.ensures)
