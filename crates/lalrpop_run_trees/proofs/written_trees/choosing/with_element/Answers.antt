use Rattle.std.proofs.Common.{◌∙◌, arith, sym}
use Rattle.lalrpop_run_trees.proofs.SeenLemmas.{no_item, of_nothing, of_one, one_item}
use Rattle.lalrpop_run_trees.proofs.written_trees.choosing.with_element.Goals as goal

pub returns-in-Some : goal.returns-in-Some
returns-in-Some c =
    of_one c.in-Some.list c.args.children.items
    (one_item c.args.children.items c.in-Some.list c.next.new.self.rest.items
    (sym c.into_iter-rest.ensures.rest ∙ c.in-Some.ensures.items)
    (omega (arith, c.into_iter-rest.ensures.len, c.in-Some.ensures.len, c.in-None-next.ensures.cases.0)))

pub returns : goal.returns
returns c =
    of_nothing c.args.children.items
    (no_item c.args.children.items (omega (arith, c.into_iter-rest.ensures.len, c.in-None.ensures.cases.0)))
