use Rattle.std.proofs.Common.{◌≡◌, ◌∙◌, [], ap, arith, length, refl, rules, subst, sym}
use Rattle.std.proofs.lemmas.List.{nil_from_length}
use Rattle.std.specs.Vec.Iter.{into_iter_items}
use Rattle.lalrpop_lr1_interpret.specs.ExpandedViews.{expanded_views}
use Rattle.lalrpop_lr1_interpret.specs.MoveOrders.{HasTreeSizes, trees_of}
use Rattle.lalrpop_lr1_interpret.specs.Stacks.{◌beside◌}
use Rattle.lalrpop_lr1_interpret.specs.TreeEntries.{tree_entry_views}
use Rattle.lalrpop_lr1_interpret.proofs.ExpandedLemmas.{joined_more}
use Rattle.lalrpop_lr1_interpret.proofs.StackLemmas.{beside-none}
use Rattle.lalrpop_lr1_interpret.proofs.parse.expanded_tree.ExpandedTree.join.Goals as goal

pub loop-tree-init : goal.loop-tree-init
loop-tree-init c =
    let gives = c.into_iter-tree-iterator.ensures.into_iter_gives.0 in
    let none = c.new-entries.ensures.items in (
      subst (λ l. HasTreeSizes (tree_entry_views l)) (sym none) refl,
      ap (λ l. trees_of (tree_entry_views l) beside expanded_views (into_iter_items c.into_iter-tree-iterator.result)) none
          ∙ ap expanded_views gives,
      search rules,
    )

pub loop-tree-preserved : goal.loop-tree-preserved
loop-tree-preserved c =
    let before = c.loop-tree.entries.items in
    let rest = expanded_views (into_iter_items c.next.new.self) in
    let first = c.in-Some.ensures.steps.0 in
    let more = joined_more before c.in_ok-entries.entries.items c.in-Some.tree rest (expanded_views c.args.trees.items)
    c.in_ok-entries.ensures c.loop-tree.invariant.0
    (sym (ap (λ l. trees_of (tree_entry_views before) beside expanded_views l) first) ∙ c.loop-tree.invariant.1) in
    (more.0, more.1, omega (arith, ap length first, c.in-Some.ensures.steps.1, c.loop-tree.invariant.2))

pub returns-clause-trees_are : goal.returns-clause-trees_are
returns-clause-trees_are c =
    let es = tree_entry_views c.loop-tree.entries.items in
    let left = into_iter_items c.loop-tree.tree-iterator in
    let none : left ≡ [] = nil_from_length left (sym c.loop-tree.invariant.2 ∙ c.in-None.ensures.steps.0) in
    sym (beside-none (trees_of es)) ∙ ap (λ l. trees_of es beside expanded_views l) (sym none) ∙ c.loop-tree.invariant.1
