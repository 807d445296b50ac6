use Rattle.std.proofs.Common.{◌≡◌, ◌∙◌, ◌++◌, ◌∷◌, [], ap, length, map, subst, sym}
use Rattle.std.proofs.lemmas.Result.{on_ok_weaker}
use Rattle.lalrpop_grammar.specs.Trees.{Tree}
use Rattle.lalrpop_grammar.specs.Views.{tree_view}
use Rattle.lalrpop_grammar_language.specs.Derivations.{leaf_token}
use Rattle.lalrpop_grammar_symbols.specs.Views.{span_view, terminal_view}
use Rattle.lalrpop_lr1_core.specs.Views.{production_view}
use Rattle.lalrpop_lr1_interpret.specs.MoveOrders.{with_label}
use Rattle.lalrpop_lr1_interpret.specs.TreeEntries.{tree_label_view}
use Rattle.lalrpop_lr1_theory.specs.Productions.{Production}
use Rattle.lalrpop_run_trees.specs.ActionLabels.{TellsLabel}
use Rattle.lalrpop_run_trees.specs.LabelledTrees.{shown_trees, tree_by_label}
use Rattle.lalrpop_run_parser.proofs.BuildingLemmas.{leaf_shown, node_below}
use Rattle.lalrpop_run_parser.proofs.folding.tree_unfolding.push_entry.Goals as goal

pub returns-in-Leaf-clause-shown : goal.returns-in-Leaf-clause-shown
returns-in-Leaf-clause-shown c = λ label_of trees over shown.
    let old = map tree_view c.args.made.now.items in
    let new = map tree_view c.push_leaf.new.made.items in
    let t = terminal_view c.in-Leaf.terminal in
    let span = span_view c.in-Leaf.span in
    let l = tree_label_view c.args.entry.now.label in
    let n = c.args.entry.now.size in
    on_ok_weaker c.push_leaf.result
    (λ (e : new ≡ old ++ Tree.terminal (leaf_token t span) ∷ []). leaf_shown label_of trees l t span n old new (ap tree_label_view c.in-Leaf.is) shown e)
    c.push_leaf.ensures.leaf

pub returns-in-Node-clause-shown : goal.returns-in-Node-clause-shown
returns-in-Node-clause-shown c = λ label_of trees over shown.
    let new = map tree_view c.push_node.new.made.items in
    let p = production_view c.in-Node.production.now in
    let l = tree_label_view c.args.entry.now.label in
    let n = c.args.entry.now.size in
    let T = λ (q : Production). TellsLabel c.args.actions.now c.args.origins.now q.action (length q.right) (label_of q.action) in
    let b = node_below T label_of trees l p n (ap tree_label_view c.in-Node.is) over in
    on_ok_weaker c.push_node.result
    (λ (e : new ≡ b.before ++ tree_by_label (label_of p.action) b.below ∷ []). e ∙ b.shown)
    (c.push_node.ensures.node (label_of p.action) b.before b.below
    (subst (λ k. TellsLabel c.args.actions.now c.args.origins.now p.action k (label_of p.action)) (sym b.long) b.told) b.long
    (shown ∙ b.parts))
