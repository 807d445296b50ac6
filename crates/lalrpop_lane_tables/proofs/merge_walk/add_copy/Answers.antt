use Rattle.std.proofs.Common.{◌<◌, arith, length, refl, subst, sym}
use Rattle.std.proofs.lemmas.List.{with_items_is}
use Rattle.lalrpop_lane_tables.specs.CopiedStates.{CopyingKeeps}
use Rattle.lalrpop_lane_tables.proofs.CopiedLemmas.{copy_keeps, copying_both}
use Rattle.lalrpop_lane_tables.proofs.MergeClassLemmas.{join_classes}
use Rattle.lalrpop_lane_tables.proofs.merge_walk.add_copy.Goals as goal

pub returns-in_err-push_copy-clause-classes : goal.returns-in_err-push_copy-clause-classes
returns-in_err-push_copy-clause-classes c =
    join_classes (length c.args.row) c.give_class.new.sets c.give_class.new.unify c.args.step.state (record { 0 = c.len.result }) c.join.new.unify
    c.join.result (c.give_class.ensures.classes (length c.args.row) refl c.requires.classes) c.join.ensures

pub returns-in_err-lead-clause-classes : goal.returns-in_err-lead-clause-classes
returns-in_err-lead-clause-classes c =
    join_classes (length c.args.row) c.give_class.new.sets c.give_class.new.unify c.args.step.state (record { 0 = c.len.result }) c.join.new.unify
    c.join.result (c.give_class.ensures.classes (length c.args.row) refl c.requires.classes) c.join.ensures

pub returns-clause-classes : goal.returns-clause-classes
returns-clause-classes c =
    join_classes (length c.args.row) c.give_class.new.sets c.give_class.new.unify c.args.step.state (record { 0 = c.len.result }) c.join.new.unify
    c.join.result (c.give_class.ensures.classes (length c.args.row) refl c.requires.classes) c.join.ensures

pub returns-clause-kept : goal.returns-clause-kept
returns-clause-kept c =
    let written = with_items_is c.push_copy.new.states c.lead.new.states (omega (arith, c.lead.auto.states, c.as_mut_slice.ensures.len)) in
    let some : 0 < c.args.copying.now.left = grind arith in
    subst (λ s. CopyingKeeps c.args.copying.now c.args.states.now.items c.lead.new.copying s) (sym written)
    (copying_both c.args.copying.now c.push_copy.new.self c.lead.new.copying c.args.states.now.items c.push_copy.new.states.items
    c.lead.new.states
    (copy_keeps c.args.step.successor c.args.copying.now c.args.states.now.items c.push_copy.new.self c.push_copy.new.states.items some
    c.in_ok-push_copy.ensures)
    (subst (λ s. CopyingKeeps c.push_copy.new.self s c.lead.new.copying c.lead.new.states) c.as_mut_slice.ensures.value
    c.in_ok-lead.ensures.kept))
