use Rattle.std.proofs.Common.{◌∙◌, ◌∷◌, [], ◌++◌, ap, sym, take}
use Rattle.std.proofs.lemmas.List.{take_more}
use Rattle.lalrpop_run_trees.proofs.ShownPartLemmas.{inside_one, inside_pushed, same_more}
use Rattle.lalrpop_run_trees.proofs.tree_parts.taking.all_inside.Goals as goal

pub loop-tree-preserved : goal.loop-tree-preserved
loop-tree-preserved c =
    let all = c.args.elements.now in
    let i = c.loop-tree.tree-index in
    let next = take_more all i c.tree-item.result c.loop-tree-test.true in
    record {
      parts_are = same_more all i c.tree-item.result (next ∙ ap (λ t. take i all ++ t ∷ []) (sym c.tree-item.is))
          c.loop-tree.parts.items c.push.new.self.items c.inside.result c.in_ok-push.ensures.items c.loop-tree.invariant.parts_are
          c.inside.ensures.tree;
      inside = λ size less.
          inside_pushed size c.loop-tree.parts.items c.push.new.self.items c.inside.result c.in_ok-push.ensures.items
          (c.loop-tree.invariant.inside size less)
          (inside_one all i c.tree-item.result (next ∙ ap (λ t. take i all ++ t ∷ []) (sym c.tree-item.is)) size less c.inside.result
          c.inside.ensures.tree c.inside.ensures.inside);
    }
