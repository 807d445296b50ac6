use Rattle.std.proofs.Common.{List, subst, sym}
use Rattle.lalrpop_lr1_core.specs.declared.state_index.StateIndex.{StateIndex}
use Rattle.lalrpop_lane_tables.specs.MergeViews.{AreClasses}
use Rattle.lalrpop_lane_tables.specs.declared.unify_tables.StateSet.{StateSet}
use Rattle.lalrpop_lane_tables.proofs.MergeClassLemmas.{classes_more, classes_with}
use Rattle.lalrpop_lane_tables.proofs.merge_classes.give_class.Goals as goal

pub returns-in_err-insert-clause-classes : goal.returns-in_err-insert-clause-classes
returns-in_err-insert-clause-classes c = λ count long h.
    subst (λ (s : List (StateIndex × StateSet)). AreClasses count s c.new_key.new.self) (sym c.in_err-insert.ensures.err)
    (classes_more count c.args.sets.now c.args.unify.now c.new_key.new.self c.args.row c.in_ok-key.key.index h c.in_ok-key.ensures.added long)

pub returns-clause-classes : goal.returns-clause-classes
returns-clause-classes c = λ count long h.
    subst (λ (s : List (StateIndex × StateSet)). AreClasses count s c.new_key.new.self) (sym c.in_ok-insert.ensures.ok)
    (classes_with count c.args.sets.now c.args.unify.now c.new_key.new.self c.args.row c.args.state c.in_ok-key.key h
    c.in_ok-key.ensures.added long)
