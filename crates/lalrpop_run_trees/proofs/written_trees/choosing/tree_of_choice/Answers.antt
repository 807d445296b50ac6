use Rattle.std.proofs.Common.{◌∙◌, ap, sym, map}
use Rattle.lalrpop_grammar.specs.Trees.{Tree, trees}
use Rattle.lalrpop_grammar.specs.Views.{origin_view, tree_view}
use Rattle.lalrpop_grammar.specs.declared.origin.Origin.{Origin}
use Rattle.lalrpop_grammar.specs.declared.tree.WrittenTree.{WrittenTree}
use Rattle.lalrpop_grammar_language.specs.Derivations.{tree_by_origin}
use Rattle.lalrpop_run_trees.proofs.SeenLemmas.{of_some}
use Rattle.lalrpop_run_trees.proofs.written_trees.choosing.tree_of_choice.Goals as goal

pub returns-in_ok-new-in-OptSome : goal.returns-in_ok-new-in-OptSome
returns-in_ok-new-in-OptSome c =
    of_some c.in_ok-new-in-OptSome.field-0
    ∙ ap (λ (t : WrittenTree). Tree.opt_some (tree_view t)) c.in_ok-new-in-OptSome.ensures
    ∙ ap Tree.opt_some c.first_of.ensures
    ∙ ap (λ (o : Origin). tree_by_origin (origin_view o) (trees (map tree_view c.args.children.items))) (sym c.in-OptSome.is)
