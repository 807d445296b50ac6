use Rattle.std.proofs.Common.{◌∙◌, ap, map, sym}
use Rattle.lalrpop_grammar.specs.Trees.{Tree, trees}
use Rattle.lalrpop_run_trees.specs.PartViews.{shown_piece, shown_tree}
use Rattle.lalrpop_run_trees.proofs.ShownPartLemmas.{shown_list}
use Rattle.lalrpop_run_trees.proofs.tree_parts.tree_part.TreePart.list_trees.Goals as goal

pub returns-in-List-clause-list : goal.returns-in-List-clause-list
returns-in-List-clause-list c =
    shown_list c.args.self.piece c.in-Whole.tree.now c.in-List.trees (ap shown_piece c.in-Whole.is) c.in-List.is
    ∙ ap (λ l. Tree.list (trees (map shown_tree l))) (sym c.as_slice.ensures)
