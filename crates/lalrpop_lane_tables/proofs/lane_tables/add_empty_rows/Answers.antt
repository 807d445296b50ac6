use Rattle.std.proofs.Common.{rules, ◌≡◌, ◌∷◌, List, [], subst}
use Rattle.std.specs.BTreeSet.{BTreeSet}
use Rattle.lalrpop_lr1_core.specs.declared.state_index.StateIndex.{StateIndex}
use Rattle.lalrpop_lane_tables.specs.RowColumns.{GainsEmptyRows}
use Rattle.lalrpop_lane_tables.proofs.RowLemmas.{empties_begin, empties_go_on}
use Rattle.lalrpop_lane_tables.proofs.lane_tables.add_empty_rows.Goals as goal

pub loop-state-init : goal.loop-state-init
loop-state-init c =
    let all : c.into_iter-state-iterator.result ≡ c.args.successors.now = search rules in
    rw all (empties_begin c.args.conflicts c.args.successors.now c.args.rows.now)

pub loop-state-preserved : goal.loop-state-preserved
loop-state-preserved c =
    let left : c.loop-state.state-iterator ≡ (c.in-Some.state.now, c.in-Some.states.now) ∷ c.next.new.self = search rules in
    empties_go_on c.args.conflicts c.args.successors.now c.args.rows.now c.loop-state.state-iterator c.in-Some.state.now
    c.in-Some.states.now c.next.new.self c.loop-state.rows c.add_missing_row.new.rows left c.in_ok-add_missing_row.ensures
    c.loop-state.invariant

pub returns : goal.returns
returns c =
    let left : c.loop-state.state-iterator ≡ [] = search rules in
    subst (λ (l : List (StateIndex × BTreeSet StateIndex)). GainsEmptyRows c.args.conflicts c.args.successors.now l c.args.rows.now c.loop-state.rows)
    left c.loop-state.invariant
