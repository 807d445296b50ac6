use Rattle.std.proofs.Common.{◌<◌, arith, get_or, inr, length, refl, subst, sym}
use Rattle.lalrpop_lr1_theory.proofs.ListLemmas.{get_contains}
use Rattle.lalrpop_lane_tables.specs.AppliedSets.{HaveActions, HaveSetsOfActions}
use Rattle.lalrpop_lane_tables.proofs.MergeClassLemmas.{key_below}
use Rattle.lalrpop_lane_tables.proofs.PatchLemmas.{got_or}
use Rattle.lalrpop_lane_tables.proofs.merge_targets.add_patch.Goals as goal

pub probe_value-columns-requires : goal.probe_value-columns-requires
probe_value-columns-requires c =
    key_below c.args.sets.now c.args.unify.now c.args.state c.in-Some.key (length c.args.actions.now.keys, c.requires.classes)
    (sym c.in-Some.ensures)

pub applied-requires-clause-sets : goal.applied-requires-clause-sets
applied-requires-clause-sets c =
    let at = c.probe_value-columns.ensures in
    c.requires.classes.columns (at.0, c.probe_value-columns.result.now)
    (get_contains c.args.unify.now c.in-Some.key.index (at.0, c.probe_value-columns.result.now) at.1)

pub applied-requires-clause-actions : goal.applied-requires-clause-actions
applied-requires-clause-actions c =
    let within : c.args.state.0 < length c.args.states.now = grind arith in
    let own = get_or c.args.states.now c.args.state.0 c.index-states-state.result in
    subst (λ r. HaveActions c.args.actions.now.keys r) (sym c.as_slice.ensures)
    (c.requires.actions own (got_or c.args.states.now c.args.state.0 c.index-states-state.result within))

pub returns-in_ok-push-in-Some : goal.returns-in_ok-push-in-Some
returns-in_ok-push-in-Some c =
    let within : c.args.state.0 < length c.args.states.now = grind arith in
    inr (record {
      patch = record { state = c.args.state; reductions = c.in_ok-reductions-in-Some.reductions };
      of = refl;
      are = record {
        state = get_or c.args.states.now c.args.state.0 c.index-states-state.result;
        at = got_or c.args.states.now c.args.state.0 c.index-states-state.result within;
        key = c.in-Some.key;
        classed = sym c.in-Some.ensures;
        columns = c.probe_value-columns.result.now;
        are = c.probe_value-columns.ensures;
        have = subst
            (λ r. HaveSetsOfActions c.args.actions.now.keys c.probe_value-columns.result.now r c.in_ok-reductions-in-Some.reductions)
            c.as_slice.ensures c.in_ok-reductions-in-Some.ensures;
      };
      added = c.in_ok-push-in-Some.ensures.items;
    })
