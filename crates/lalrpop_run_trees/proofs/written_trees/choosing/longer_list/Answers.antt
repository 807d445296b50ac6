use Rattle.std.proofs.Common.{◌∙◌, ap}
use Rattle.lalrpop_grammar.specs.Views.{tree_view}
use Rattle.lalrpop_grammar.specs.declared.tree.WrittenTree.TheVariants as variant
use Rattle.lalrpop_run_trees.proofs.SeenLemmas.{of_longer, of_no_list}
use Rattle.lalrpop_run_trees.proofs.written_trees.choosing.longer_list.Goals as goal

pub returns-in_ok-push-in-Some : goal.returns-in_ok-push-in-Some
returns-in_ok-push-in-Some c =
    ap (λ ts. tree_view (variant.List ts)) c.in_ok-push-in-Some.ensures.ok
    ∙ of_longer c.args.list c.in-Some.trees c.args.element c.in-Some.ensures

pub returns-in-None : goal.returns-in-None
returns-in-None c = of_no_list c.args.list (tree_view c.args.element) c.in-None.ensures
