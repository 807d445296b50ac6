use Rattle.std.proofs.Common.{◌∙◌, ap, map, sym}
use Rattle.lalrpop_grammar.specs.Trees.{Tree, trees}
use Rattle.lalrpop_run_trees.specs.PartViews.{shown_piece, shown_tree}
use Rattle.lalrpop_run_trees.proofs.ShownPartLemmas.{shown_group}
use Rattle.lalrpop_run_trees.proofs.tree_parts.tree_part.TreePart.group_trees.Goals as goal

pub returns-in-Group-clause-group : goal.returns-in-Group-clause-group
returns-in-Group-clause-group c =
    shown_group c.args.self.piece c.in-Whole.tree.now c.in-Group.trees (ap shown_piece c.in-Whole.is) c.in-Group.is
    ∙ ap (λ l. Tree.group (trees (map shown_tree l))) (sym c.as_slice.ensures)
