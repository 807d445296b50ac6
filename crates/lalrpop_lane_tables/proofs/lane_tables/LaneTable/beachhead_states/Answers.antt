use Rattle.std.proofs.Common.{◌↔◌, Contains, subst}
use Rattle.lalrpop_lr1_core.specs.declared.state_index.StateIndex.{StateIndex}
use Rattle.lalrpop_lane_theory.specs.LaneTables.{IsBeachhead}
use Rattle.lalrpop_lane_tables.specs.TableViews.{TableView}
use Rattle.lalrpop_lane_tables.proofs.RowLemmas.{beachhead_is}
use Rattle.lalrpop_lane_tables.proofs.lane_tables.LaneTable.beachhead_states.Goals as goal

pub returns : goal.returns
returns c =
    subst (λ (t : TableView). (n : StateIndex) → Contains c.in_ok-states.states.keys n ↔ IsBeachhead t.rows t.noted n.0) c.self.view_is
    (λ n.
    let states = c.in_ok-states.ensures n in
    let is = beachhead_is c.self.inside.conflicts c.self.inside.lookaheads c.self.inside.successors c.in_ok-reached.reached.keys
    c.self.invariant.whole c.in_ok-reached.ensures n in
    (λ h. is.0 (states.0 h), λ b. states.1 (is.1 b)))
