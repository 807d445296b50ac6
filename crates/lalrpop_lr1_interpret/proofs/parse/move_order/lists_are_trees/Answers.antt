use Rattle.std.proofs.Common.{◌∙◌, ap, length, sym}
use Rattle.lalrpop_lr1_theory.specs.Spans.{without_spans}
use Rattle.lalrpop_lr1_theory.specs.Trees.{roots}
use Rattle.lalrpop_lr1_interpret.proofs.MoveOrderLemmas.{entries_of_trees, has_sizes, trees_are}
use Rattle.lalrpop_lr1_interpret.proofs.parse.move_order.lists_are_trees.Goals as goal

pub returns : goal.returns
returns c = (
  λ es h. (entries_of_trees es h.0, h.1),
  λ es ts l.
      let same = trees_are es ts (sym l.0) in
      ((has_sizes es ts (sym l.0), ap (λ f. length (roots (without_spans f))) same ∙ l.1), sym same),
)
