use Rattle.std.proofs.Common.{◌∙◌, ◌-◌, ap, arith, length, subst, sym}
use Rattle.std.proofs.lemmas.List.{length-map}
use Rattle.lalrpop_lr1_core.specs.Views.{production_symbol_view, production_view}
use Rattle.lalrpop_run_trees.specs.ActionLabels.{TellsLabel}
use Rattle.lalrpop_run_trees.specs.LabelledTrees.{tree_by_label}
use Rattle.lalrpop_run_parser.proofs.BuildingLemmas.{below_cut, written_more}
use Rattle.lalrpop_run_parser.proofs.folding.tree_unfolding.push_node.Goals as goal

pub returns-clause-node : goal.returns-clause-node
returns-clause-node c = λ label before below told long parts.
    let p = c.args.production.now in
    let cut = below_cut before below (length (production_view p).right) c.saturating_sub-first.result c.args.made.now.items
    c.split_off.new.self.items c.in_ok-children.children.items parts long
    (omega (
      arith,
      c.saturating_sub-first.ensures,
      c.len.ensures,
      c.len-2.ensures,
      length-map p.symbols production_symbol_view,
    ))
    c.in_ok-children.ensures.items c.in_ok-children.ensures.tail in
    written_more c.split_off.new.self.items c.push.new.self.items c.in_ok-node.node before (tree_by_label label below) cut.front_is
    (c.in_ok-node.ensures label
    (subst (λ n. TellsLabel c.args.actions.now c.args.origins.now p.action.0 n label) (sym cut.long) told)
    ∙ ap (λ l. tree_by_label label l) cut.back_is)
    c.in_ok-push.ensures.items
