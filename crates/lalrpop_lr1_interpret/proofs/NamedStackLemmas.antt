-- Trees without productions on a stack: a leaf, and a node over the last of them. For stacks of parse trees.
use Rattle.std.proofs.Common.{◌≡◌, ◌∙◌, ◌-◌, ◌≤◌, ℕ, List, [], ◌∷◌, ◌++◌}
use Rattle.std.proofs.Common.{length, map, take, drop, sym, ap, arith, length-append, take-append-drop}
use Rattle.std.proofs.lemmas.List.{length-drop, length-map}
use Rattle.lalrpop_grammar_repr.specs.declared.production.Production.{Production}
use Rattle.lalrpop_grammar_repr.specs.declared.production.Symbol.{Symbol}
use Rattle.lalrpop_lr1_theory.specs.Spans.{SpannedForest, node_at, none_at, without_spans}
use Rattle.lalrpop_lr1_theory.specs.Trees.{node, none, roots}
use Rattle.lalrpop_lr1_theory.proofs.TreeLemmas.{roots-and}
use Rattle.lalrpop_lr1_core.specs.Views.{production_symbol_view, production_view}
use Rattle.lalrpop_lr1_interpret.specs.Stacks.{◌beside◌}
use Rattle.lalrpop_lr1_interpret.proofs.StackLemmas.{without-beside}
use Rattle.lalrpop_lr1_interpret.specs.NamedTrees.{name_forest, named_node, no_trees, parse_tree_view, parse_tree_views}
use Rattle.lalrpop_lr1_interpret.specs.declared.parse_trees.parse_tree.ParseTree.{ParseTree}
use Rattle.lalrpop_lr1_interpret.proofs.NamedLemmas.{name_forest-and, named_count, named_long, named_views_long, named_views_more}
use Rattle.lalrpop_lr1_interpret.proofs.NamedLemmas.{same_named_ends, ◌along◌}

-- a stack of trees that end with the children of a node has as many
pub enough_named : (ts : List ParseTree) (kept children : SpannedForest) (symbols : List Symbol) →
    parse_tree_views ts ≡ name_forest (without_spans (kept beside children)) →
    roots (without_spans children) ≡ map production_symbol_view symbols → length symbols ≤ length ts
enough_named ts kept children symbols e r =
    omega (
      arith,
      named_views_long ts,
      ap named_count e,
      named_long (without_spans (kept beside children)),
      ap (λ f. length (roots f)) (without-beside kept children),
      ap length (roots-and (without_spans kept) (without_spans children)),
      length-append (roots (without_spans kept)) (roots (without_spans children)),
      ap length r,
      length-map symbols production_symbol_view,
    )

-- a node over the last trees
pub named_node_on : (ts left cs after : List ParseTree) (first : ℕ) (p : Production) (tree : ParseTree)
    (kept children : SpannedForest) →
    parse_tree_views ts ≡ name_forest (without_spans (kept beside children)) →
    roots (without_spans children) ≡ map production_symbol_view p.symbols →
    first ≡ length ts - length p.symbols → left ≡ take first ts → cs ≡ drop first ts →
    parse_tree_view tree ≡ named_node p.nonterminal.0 (parse_tree_views cs) no_trees → after ≡ left ++ tree ∷ [] →
    parse_tree_views after ≡ name_forest (without_spans (kept beside node_at (production_view p) children none_at))
named_node_on ts left cs after first p tree kept children e r f l c t a =
    let long = enough_named ts kept children p.symbols e r in
    let parts : parse_tree_views (take first ts) along parse_tree_views (drop first ts)
    ≡ name_forest (without_spans kept) along name_forest (without_spans children) =
    sym (named_views_more (take first ts) (drop first ts)) ∙ ap parse_tree_views (take-append-drop first ts) ∙ e
    ∙ ap name_forest (without-beside kept children) ∙ name_forest-and (without_spans kept) (without_spans children) in
    let many : named_count (parse_tree_views (drop first ts)) ≡ named_count (name_forest (without_spans children)) =
    named_views_long (drop first ts) ∙ length-drop first ts
    ∙ omega (arith, f, long, ap length r, length-map p.symbols production_symbol_view, named_long (without_spans children)) in
    let split = same_named_ends (parse_tree_views (take first ts)) (parse_tree_views (drop first ts)) (name_forest (without_spans kept))
    (name_forest (without_spans children)) parts many in
    ap parse_tree_views a ∙ named_views_more left (tree ∷ []) ∙ ap (λ x. parse_tree_views x along parse_tree_view tree) l
    ∙ ap (λ x. x along parse_tree_view tree) split.0 ∙ ap (λ x. name_forest (without_spans kept) along x) t
    ∙ ap (λ x. name_forest (without_spans kept) along named_node p.nonterminal.0 x no_trees) (ap parse_tree_views c ∙ split.1)
    ∙ sym (ap name_forest (without-beside kept (node_at (production_view p) children none_at))
    ∙ name_forest-and (without_spans kept) (node (production_view p) (without_spans children) none))

-- a leaf beside others
pub named_leaf_on : (ts after : List ParseTree) (tree : ParseTree) (seen one : SpannedForest) →
    parse_tree_views ts ≡ name_forest (without_spans seen) → parse_tree_view tree ≡ name_forest (without_spans one) →
    after ≡ ts ++ tree ∷ [] →
    parse_tree_views after ≡ name_forest (without_spans (seen beside one))
named_leaf_on ts after tree seen one e t a =
    ap parse_tree_views a ∙ named_views_more ts (tree ∷ []) ∙ ap (λ x. x along parse_tree_view tree) e
    ∙ ap (λ x. name_forest (without_spans seen) along x) t
    ∙ sym (ap name_forest (without-beside seen one) ∙ name_forest-and (without_spans seen) (without_spans one))
