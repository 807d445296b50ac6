use Rattle.std.proofs.Common.{ap, arith, length}
use Rattle.lalrpop_lr1_theory.specs.Spans.{without_spans}
use Rattle.lalrpop_lr1_theory.specs.Trees.{roots}
use Rattle.lalrpop_lr1_interpret.proofs.ExpandedLemmas.{roots-beside}
use Rattle.lalrpop_lr1_interpret.proofs.parse.tree_list.TreeListTreeStack.node.Goals as goal

pub push_node-requires : goal.push_node-requires
push_node-requires c =
    let q = c.requires in
    omega (
      arith,
      ap (λ f. length (roots (without_spans f))) q.stands,
      roots-beside q.kept q.children,
      ap length q.roots_are,
    )

pub returns-clause-node_stands : goal.returns-clause-node_stands
returns-clause-node_stands c = λ kept children ks e r. c.push_node.ensures.node kept children e (ap length r)
