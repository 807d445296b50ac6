use Rattle.std.proofs.Common.{rules, ◌≡◌, ◌∙◌, ◌<◌, All, ap, Err, length, length-set, List, map, set, subst, sym, ℕ}
use Rattle.lalrpop_lane_tables.specs.UnifiedClasses.{class_entries, class_entry, joined_entry}
use Rattle.lalrpop_lane_tables.proofs.InsertLemmas.{get_of}
use Rattle.lalrpop_lane_tables.proofs.UnifyLemmas.{any_entry, below_moved, class_within, entries_move, entry_of_view, joins, key_within}
use Rattle.lalrpop_lane_tables.proofs.UnifyLemmas.{moved_class, overlap_alike, overlap_of, overlaps, same_class}
use Rattle.lalrpop_lane_tables.proofs.unify_tables.UnifyTable.unify_var_var.Goals as goal

pub returns-then-into-from-clause-unified : goal.returns-then-into-from-clause-unified
returns-then-into-from-clause-unified c =
    let classes = c.self.inside.classes.items in
    let columns = c.self.inside.columns.items in
    let into = c.index-into.result.now in
    let from = c.index-from.result.now in
    let one = any_entry classes columns c.args.self.now c.args.key1.index into c.self.view_is
    (get_of classes c.args.key1.index into (key_within classes columns c.args.self.now c.args.key1.index c.self.view_is c.requires.key1)
    c.index-into.ensures) in
    let other = any_entry classes columns c.args.self.now c.args.key2.index from c.self.view_is
    (get_of classes c.args.key2.index from (key_within classes columns c.args.self.now c.args.key2.index c.self.view_is c.requires.key2)
    c.index-from.ensures) in
    same_class c.args.self.now c.args.key1.index c.args.key2.index into from (class_entry columns into).1 (class_entry columns from).1 one
    other c.if-into-from.true

pub returns-then-into-from-clause-refused : goal.returns-then-into-from-clause-refused
returns-then-into-from-clause-refused c =
    let classes = c.self.inside.classes.items in
    let columns = c.self.inside.columns.items in
    let into = c.index-into.result.now in
    let from = c.index-from.result.now in
    let one = any_entry classes columns c.args.self.now c.args.key1.index into c.self.view_is
    (get_of classes c.args.key1.index into (key_within classes columns c.args.self.now c.args.key1.index c.self.view_is c.requires.key1)
    c.index-into.ensures) in
    let other = any_entry classes columns c.args.self.now c.args.key2.index from c.self.view_is
    (get_of classes c.args.key2.index from (key_within classes columns c.args.self.now c.args.key2.index c.self.view_is c.requires.key2)
    c.index-from.ensures) in (
      λ w. absurd w,
      λ o. (overlap_of c.args.self.now c.args.key1.index c.args.key2.index into from (class_entry columns into).1 (class_entry columns from).1
          one other o).0 c.if-into-from.true,
    )

pub joined_columns-requires : goal.joined_columns-requires
joined_columns-requires c =
    let classes = c.self.inside.classes.items in
    let columns = c.self.inside.columns.items in
    let into = c.index-into.result.now in
    let from = c.index-from.result.now in
    let at_into = get_of classes c.args.key1.index into
    (key_within classes columns c.args.self.now c.args.key1.index c.self.view_is c.requires.key1) c.index-into.ensures in
    let at_from = get_of classes c.args.key2.index from
    (key_within classes columns c.args.self.now c.args.key2.index c.self.view_is c.requires.key2) c.index-from.ensures in
    let one = entry_of_view classes columns c.args.self.now c.args.key1.index into c.index.result.now c.self.view_is at_into
    (get_of columns into c.index.result.now (class_within classes (length columns) c.args.key1.index into c.self.invariant at_into)
    c.index.ensures) in
    let other = entry_of_view classes columns c.args.self.now c.args.key2.index from c.index-2.result.now c.self.view_is at_from
    (get_of columns from c.index-2.result.now (class_within classes (length columns) c.args.key2.index from c.self.invariant at_from)
    c.index-2.ensures) in
    sym (c.requires.lengths c.index.result.now c.index-2.result.now (into, one) (from, other))

pub returns-in_err-joined-clause-refused : goal.returns-in_err-joined-clause-refused
returns-in_err-joined-clause-refused c =
    let classes = c.self.inside.classes.items in
    let columns = c.self.inside.columns.items in
    let into = c.index-into.result.now in
    let from = c.index-from.result.now in
    let at_into = get_of classes c.args.key1.index into
    (key_within classes columns c.args.self.now c.args.key1.index c.self.view_is c.requires.key1) c.index-into.ensures in
    let at_from = get_of classes c.args.key2.index from
    (key_within classes columns c.args.self.now c.args.key2.index c.self.view_is c.requires.key2) c.index-from.ensures in
    let one = entry_of_view classes columns c.args.self.now c.args.key1.index into c.index.result.now c.self.view_is at_into
    (get_of columns into c.index.result.now (class_within classes (length columns) c.args.key1.index into c.self.invariant at_into)
    c.index.ensures) in
    let other = entry_of_view classes columns c.args.self.now c.args.key2.index from c.index-2.result.now c.self.view_is at_from
    (get_of columns from c.index-2.result.now (class_within classes (length columns) c.args.key2.index from c.self.invariant at_from)
    c.index-2.ensures) in
    let f = c.in_err-joined.field-0.0 in
    let is : c.from_residual.result ≡ Err f = search rules in
    rw is (
      λ h. overlaps c.args.self.now c.args.key1.index c.args.key2.index into from c.index.result.now c.index-2.result.now one other
          c.if-into-from.false (c.in_err-joined.ensures.refused.0 (overlap_alike (Unit {0}) (List (List ℕ)) f h)),
      λ o. overlap_alike (List (List ℕ)) (Unit {0}) f (c.in_err-joined.ensures.refused.1
          (overlap_of c.args.self.now c.args.key1.index c.args.key2.index into from c.index.result.now c.index-2.result.now one other o).1),
    )

pub invariant_of-self : goal.invariant_of-self
invariant_of-self c =
    let classes = c.self.inside.classes.items in
    let columns = c.self.inside.columns.items in
    let into = c.index-into.result.now in
    let from = c.index-from.result.now in
    let at_into = get_of classes c.args.key1.index into
    (key_within classes columns c.args.self.now c.args.key1.index c.self.view_is c.requires.key1) c.index-into.ensures in
    subst (λ (n : ℕ). All (λ k. k < n) c.move_keys.new.classes.items) (sym (length-set columns into c.replace-before.new.dest))
    (subst (λ (cs : List ℕ). All (λ k. k < length columns) cs) (sym c.move_keys.ensures)
    (below_moved classes (length columns) from into
    (class_within classes (length columns) c.args.key1.index into c.self.invariant at_into) c.self.invariant))

pub returns-clause-unified : goal.returns-clause-unified
returns-clause-unified c =
    let classes = c.self.inside.classes.items in
    let columns = c.self.inside.columns.items in
    let into = c.index-into.result.now in
    let from = c.index-from.result.now in
    let at_into = get_of classes c.args.key1.index into
    (key_within classes columns c.args.self.now c.args.key1.index c.self.view_is c.requires.key1) c.index-into.ensures in
    let at_from = get_of classes c.args.key2.index from
    (key_within classes columns c.args.self.now c.args.key2.index c.self.view_is c.requires.key2) c.index-from.ensures in
    let there = class_within classes (length columns) c.args.key1.index into c.self.invariant at_into in
    let one = entry_of_view classes columns c.args.self.now c.args.key1.index into c.index.result.now c.self.view_is at_into
    (get_of columns into c.index.result.now there c.index.ensures) in
    let other = entry_of_view classes columns c.args.self.now c.args.key2.index from c.index-2.result.now c.self.view_is at_from
    (get_of columns from c.index-2.result.now (class_within classes (length columns) c.args.key2.index from c.self.invariant at_from)
    c.index-2.ensures) in
    let z = c.in_ok-joined.joined in
    let written : c.replace-before.new.dest ≡ z = search rules in
    joins c.args.self.now c.args.key1.index c.args.key2.index into from c.index.result.now c.index-2.result.now one other z
    (class_entries c.move_keys.new.classes.items (set columns into c.replace-before.new.dest)) c.in_ok-joined.ensures.gathers
    (ap (λ cs. class_entries cs (set columns into c.replace-before.new.dest)) c.move_keys.ensures
    ∙ ap (λ v. class_entries (map (moved_class from into) classes) (set columns into v)) written
    ∙ entries_move classes columns from into z there (λ e. c.if-into-from.false (sym e))
    ∙ ap (map (joined_entry into from z)) c.self.view_is)

pub returns-clause-refused : goal.returns-clause-refused
returns-clause-refused c =
    let classes = c.self.inside.classes.items in
    let columns = c.self.inside.columns.items in
    let into = c.index-into.result.now in
    let from = c.index-from.result.now in
    let at_into = get_of classes c.args.key1.index into
    (key_within classes columns c.args.self.now c.args.key1.index c.self.view_is c.requires.key1) c.index-into.ensures in
    let at_from = get_of classes c.args.key2.index from
    (key_within classes columns c.args.self.now c.args.key2.index c.self.view_is c.requires.key2) c.index-from.ensures in
    let one = entry_of_view classes columns c.args.self.now c.args.key1.index into c.index.result.now c.self.view_is at_into
    (get_of columns into c.index.result.now (class_within classes (length columns) c.args.key1.index into c.self.invariant at_into)
    c.index.ensures) in
    let other = entry_of_view classes columns c.args.self.now c.args.key2.index from c.index-2.result.now c.self.view_is at_from
    (get_of columns from c.index-2.result.now (class_within classes (length columns) c.args.key2.index from c.self.invariant at_from)
    c.index-2.ensures) in (
      λ w. absurd w,
      λ o. c.in_ok-joined.ensures.refused.1
          (overlap_of c.args.self.now c.args.key1.index c.args.key2.index into from c.index.result.now c.index-2.result.now one other o).1,
    )
