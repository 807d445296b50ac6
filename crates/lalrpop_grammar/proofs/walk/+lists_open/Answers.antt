use Rattle.std.proofs.Common.{◌≡◌, refl, ap, arith, map}
use Rattle.lalrpop_grammar.specs.Trees.{trees}
use Rattle.lalrpop_grammar.specs.Views.{tree_view}
use Rattle.lalrpop_grammar.specs.Walks.{children, open_in}
use Rattle.lalrpop_grammar.proofs.WalkLemmas.{open-none, open-more, steps_in, steps-inside}
use Rattle.lalrpop_grammar.proofs.walk.+lists_open.Goals as goal
use Rattle.lalrpop_grammar.proofs.walk.+lists_open.Goals.{then-below-most, else-below-most}

pub loop-tree-init : goal.loop-tree-init
loop-tree-init t c = rw open-none refl

pub lists_open-requires : goal.lists_open-requires
lists_open-requires t c =
    let same : steps_in (trees (map tree_view c.children.result.now)) ≡ steps_in (children (tree_view c.tree-item.result)) =
    ap steps_in c.children.ensures in
    let less = steps-inside c.args.list.now c.loop-tree.tree-index c.tree-item.result c.loop-tree-test.true c.tree-item.is in
    (omega (arith, c.decreases, same, less), tt)

pub loop-tree-preserved : goal.loop-tree-preserved
loop-tree-preserved t c =
    let more = open-more c.args.list.now c.loop-tree.tree-index c.tree-item.result c.loop-tree-test.true c.tree-item.is in
    let same : open_in (trees (map tree_view c.children.result.now)) ≡ open_in (children (tree_view c.tree-item.result)) =
    ap open_in c.children.ensures in
    elim c.if-below-most.branch [
      | then-below-most w ↦ omega (arith, more, same, c.lists_open.ensures, c.saturating_add-below.ensures)
      | else-below-most w ↦ omega (arith, more, same, c.lists_open.ensures, c.saturating_add-below.ensures)
    ]
