use Rattle.std.proofs.Common.{ap, subst, sym}
use Rattle.std.specs.Prelude.{IfOk}
use Rattle.lalrpop_grammar.specs.Views.{origin_view}
use Rattle.lalrpop_run_trees.specs.PartViews.{TellsChildren}
use Rattle.lalrpop_run_trees.proofs.tree_parts.taking.parts_by_choice.Goals as goal

pub returns-in-PlusOne-clause-children : goal.returns-in-PlusOne-clause-children
returns-in-PlusOne-clause-children c =
    subst (λ o. IfOk c.only_element.result (TellsChildren o c.args.part)) (ap origin_view (sym c.in-PlusOne.is))
    c.only_element.ensures.children

pub returns-in-PlusMore-clause-children : goal.returns-in-PlusMore-clause-children
returns-in-PlusMore-clause-children c =
    subst (λ o. IfOk c.last_element.result (TellsChildren o c.args.part)) (ap origin_view (sym c.in-PlusMore.is))
    c.last_element.ensures.children

pub returns-in-OptSome-clause-children : goal.returns-in-OptSome-clause-children
returns-in-OptSome-clause-children c =
    subst (λ o. IfOk c.child_of_option.result (TellsChildren o c.args.part)) (ap origin_view (sym c.in-OptSome.is))
    c.child_of_option.ensures.children
