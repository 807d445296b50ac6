use Rattle.std.proofs.Common.{◌≡◌, ◌∷◌, ◌++◌, ◌+◌, ap, sym, ◌∙◌, map, drop}
use Rattle.std.proofs.lemmas.List.{drop_more}
use Rattle.lalrpop_grammar.specs.Trees.{trees, leaves_of}
use Rattle.lalrpop_grammar.specs.Views.{token_view, tree_view}
use Rattle.lalrpop_judge.proofs.LeafLemmas.{behind_tree}
use Rattle.lalrpop_judge.proofs.ViewLemmas.{seen-Rule, seen-List, seen-Group}
use Rattle.lalrpop_judge.proofs.leaves.+leaves.Goals as goal

pub end_of-returns-in-Rule : goal.end_of-returns-in-Rule
end_of-returns-in-Rule t c =
    rw (seen-Rule c.args.tree.now c.in-Rule.rule c.in-Rule.args c.in-Rule.place c.in-Rule.children c.in-Rule.is)
    (rw c.as_slice.ensures at c.end_of_all.ensures)

pub end_of-returns-in-List : goal.end_of-returns-in-List
end_of-returns-in-List t c =
    rw (seen-List c.args.tree.now c.in-List.trees c.in-List.is) (rw c.as_slice-in-List.ensures at c.end_of_all-in-List.ensures)

pub end_of-returns-in-Group : goal.end_of-returns-in-Group
end_of-returns-in-Group t c =
    rw (seen-Group c.args.tree.now c.in-Group.trees c.in-Group.is) (rw c.as_slice-in-Group.ensures at c.end_of_all-in-Group.ensures)

pub end_of_all-loop-tree-preserved : goal.end_of_all-loop-tree-preserved
end_of_all-loop-tree-preserved t c =
    let ts = c.args.trees.now in
    let i = c.loop-tree.tree-index in
    let here : drop i ts ≡ c.tree-item.result ∷ drop (i + 1) ts =
    drop_more ts i c.tree-item.result c.loop-tree-test.true ∙ ap (λ x. x ∷ drop (i + 1) ts) (sym c.tree-item.is) in
    let tokens = map token_view c.args.tokens.now in
    behind_tree (drop c.loop-tree.place tokens) (λ r. drop c.args.start tokens ≡ leaves_of (trees (map tree_view ts)) ++ r) ts i
    c.tree-item.result
    here c.loop-tree.invariant (drop c.in_ok-place.place tokens) c.in_ok-place.ensures
