use Rattle.std.proofs.Common.{◌∙◌, ◌++◌, ap, append_assoc, arith, map, sym, take}
use Rattle.lalrpop_grammar_symbols.specs.Views.{terminal_view}
use Rattle.lalrpop_lr1_interpret.specs.NamedTrees.{named_leaves, parse_tree_view, parse_tree_views}
use Rattle.lalrpop_lr1_interpret.proofs.NamedLemmas.{leaves_more}
use Rattle.lalrpop_lr1_interpret.proofs.parse_trees.parse_tree.+add_terminals.Goals as goal

pub add_all_terminals-loop-tree-preserved : goal.add_all_terminals-loop-tree-preserved
add_all_terminals-loop-tree-preserved t c =
    let i = c.loop-tree.tree-index in
    let trees = c.args.trees.now in
    let before = map terminal_view c.args.terminals.now.items in
    c.in_ok-add_terminals.ensures ∙ ap (λ l. l ++ named_leaves (parse_tree_view c.tree-item.result)) c.loop-tree.invariant
    ∙ append_assoc before (named_leaves (parse_tree_views (take i trees))) (named_leaves (parse_tree_view c.tree-item.result))
    ∙ ap (λ l. before ++ l) (sym (leaves_more trees i c.tree-item.result (omega arith) c.tree-item.is))
