use Rattle.std.proofs.Common.{◌≡◌, ◌∙◌, ◌+◌, ap, arith, length, map, subst, sym, take}
use Rattle.lalrpop_grammar.specs.Views.{tree_view}
use Rattle.lalrpop_lr1_interpret.specs.ExpandedViews.{expanded_view}
use Rattle.lalrpop_lr1_interpret.specs.MoveOrders.{trees_of, with_label}
use Rattle.lalrpop_lr1_interpret.specs.TreeEntries.{tree_entry_views, tree_label_view}
use Rattle.lalrpop_lr1_theory.specs.Productions.{Production}
use Rattle.lalrpop_lr1_theory.specs.Spans.{without_spans}
use Rattle.lalrpop_lr1_theory.specs.Trees.{AreOver}
use Rattle.lalrpop_run_trees.specs.ActionLabels.{TellsLabel}
use Rattle.lalrpop_run_trees.specs.LabelledTrees.{shown_trees}
use Rattle.lalrpop_run_parser.proofs.BuildingLemmas.{only_written, over_first, some_entries, trees_next, whole_list, whole_trees}
use Rattle.lalrpop_run_parser.proofs.folding.tree_unfolding.written_tree.Goals as goal

pub loop-entry-init : goal.loop-entry-init
loop-entry-init c = (λ h. absurd (omega (arith, h)), λ label_of over. ap (λ l. map tree_view l) c.new-made.ensures.items)

pub loop-entry-preserved : goal.loop-entry-preserved
loop-entry-preserved c = (
  λ h. c.in_ok-push_entry.ensures.some,
  λ label_of over.
      let es = c.entries-entries.result.now in
      let i = c.loop-entry.entry-index in
      let e = c.entry-item.result in
      let T = λ (q : Production). TellsLabel c.args.actions.now c.args.origins.now q.action (length q.right) (label_of q.action) in
      let whole : trees_of (tree_entry_views es) ≡ expanded_view c.args.tree.now =
      whole_trees es (expanded_view c.args.tree.now) c.entries-entries.ensures in
      let next = trees_next es i e c.loop-entry-test.true c.entry-item.is in
      let here : AreOver T (without_spans (with_label (trees_of (tree_entry_views (take i es))) (tree_label_view e.label) e.size)) =
      subst (λ f. AreOver T (without_spans f)) next
      (over_first T es (i + 1) (subst (λ f. AreOver T (without_spans f)) (sym whole) over)) in
      c.in_ok-push_entry.ensures.shown label_of (trees_of (tree_entry_views (take i es))) here (c.loop-entry.invariant.1 label_of over)
      ∙ ap (λ f. shown_trees label_of f) (sym next),
)

pub unreachable-requires : goal.unreachable-requires
unreachable-requires c =
    omega (
      arith,
      c.in-None.ensures.cases.0,
      c.loop-entry.invariant.0
          (omega (
            arith,
            c.loop-entry-test.false,
            some_entries c.entries-entries.result.now (expanded_view c.args.tree.now) c.entries-entries.ensures c.args.tree.now.in_order.1,
          )),
    )

pub returns : goal.returns
returns c = λ label_of over.
    let v = expanded_view c.args.tree.now in
    let es = c.entries-entries.result.now in
    let i = c.loop-entry.entry-index in
    only_written label_of v c.loop-entry.made.items c.pop.new.self.items c.in-Some.written c.args.tree.now.in_order.1
    c.in-Some.ensures.items
    (c.loop-entry.invariant.1 label_of over
    ∙ ap (λ f. shown_trees label_of f) (whole_list es i v c.entries-entries.ensures (omega (arith, c.loop-entry-test.false))))
