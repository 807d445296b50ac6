use Rattle.std.proofs.Common.{◌∙◌, ◌+◌, ap, arith, refl}
use Rattle.lalrpop_lr1_theory.specs.Spans.{node_at, none_at}
use Rattle.lalrpop_lr1_core.specs.Views.{production_view}
use Rattle.lalrpop_lr1_interpret.specs.declared.parse.tree_entry.TreeLabel.TheVariants as labels
use Rattle.lalrpop_lr1_interpret.proofs.ExpandedLemmas.{node_order_seen}
use Rattle.lalrpop_lr1_interpret.proofs.parse.expanded_tree.ExpandedTree.node.Goals as goal

pub invariant_of-result : goal.invariant_of-result
invariant_of-result c =
    let es = c.in_ok-entries.entries in
    record {
      in_order = (node_order_seen es.items c.push.new.self.items
          (record { label = labels.Node c.args.production; size = c.len-size.result + 1 })
          c.args.production c.in_ok-entries.ensures.in_order refl (omega (arith, c.len-size.ensures, es.ok)) c.in_ok-push.ensures.items).0;
    }

pub returns : goal.returns
returns c =
    let es = c.in_ok-entries.entries in
    (node_order_seen es.items c.push.new.self.items
    (record { label = labels.Node c.args.production; size = c.len-size.result + 1 })
    c.args.production c.in_ok-entries.ensures.in_order refl (omega (arith, c.len-size.ensures, es.ok)) c.in_ok-push.ensures.items).1
    ∙ ap (λ f. node_at (production_view c.args.production.now) f none_at) c.in_ok-entries.ensures.trees_are
