use Rattle.std.proofs.Common.{◌<◌, ap, arith, length, subst}
use Rattle.lalrpop_lane_tables.proofs.CopiedLemmas.{copying_same}
use Rattle.lalrpop_lane_tables.proofs.MergeClassLemmas.{fitting_classes, join_classes, place_within}
use Rattle.lalrpop_lane_tables.proofs.merge_walk.resolve.Goals as goal

pub returns-then-branch-clause-classes : goal.returns-then-branch-clause-classes
returns-then-branch-clause-classes c =
    join_classes c.args.table.now.conflicts c.args.sets.now c.args.unify.now c.args.step.state c.args.step.successor c.join.new.unify
    c.join.result c.requires c.join.ensures

pub returns-then-branch-clause-kept : goal.returns-then-branch-clause-kept
returns-then-branch-clause-kept c = copying_same c.args.copying.now c.args.states.now.items

pub lead-requires : goal.lead-requires
lead-requires c =
    subst (λ l. c.in-Some.place < length l) c.as_slice.ensures.value
    (place_within c.args.sets.now c.join.new.unify c.args.step.state c.args.step.successor c.as_slice.result.now c.join_first_fitting.new.unify
    c.in_ok-found.found c.in-Some.place c.in-Some.is c.in_ok-found.ensures)

pub returns-in_err-lead-in-Some-clause-classes : goal.returns-in_err-lead-in-Some-clause-classes
returns-in_err-lead-in-Some-clause-classes c =
    fitting_classes c.args.table.now.conflicts c.args.sets.now c.join.new.unify c.args.step.state c.args.step.successor c.as_slice.result.now
    c.join_first_fitting.new.unify c.join_first_fitting.result
    (join_classes c.args.table.now.conflicts c.args.sets.now c.args.unify.now c.args.step.state c.args.step.successor c.join.new.unify
    c.join.result c.requires c.join.ensures) c.join_first_fitting.ensures

pub index-requires : goal.index-requires
index-requires c =
    let same = ap length c.in_ok-lead-in-Some.ensures.copies in
    let within = subst (λ l. c.in-Some.place < length l) c.as_slice.ensures.value
    (place_within c.args.sets.now c.join.new.unify c.args.step.state c.args.step.successor c.as_slice.result.now c.join_first_fitting.new.unify
    c.in_ok-found.found c.in-Some.place c.in-Some.is c.in_ok-found.ensures) in
    omega (arith, same, within, c.lead.new.copying.copies.ok.0)

pub returns-in_ok-lead-in-Some-clause-classes : goal.returns-in_ok-lead-in-Some-clause-classes
returns-in_ok-lead-in-Some-clause-classes c =
    fitting_classes c.args.table.now.conflicts c.args.sets.now c.join.new.unify c.args.step.state c.args.step.successor c.as_slice.result.now
    c.join_first_fitting.new.unify c.join_first_fitting.result
    (join_classes c.args.table.now.conflicts c.args.sets.now c.args.unify.now c.args.step.state c.args.step.successor c.join.new.unify
    c.join.result c.requires c.join.ensures) c.join_first_fitting.ensures
