use Rattle.std.proofs.Common.{◌++◌, ◌∷◌, [], refl}
use Rattle.std.specs.Prelude.{is_ok}
use Rattle.lalrpop_lr1_interpret.specs.ExpandedViews.{listed_views}
use Rattle.lalrpop_lr1_interpret.specs.declared.parse.tree_entry.TreeLabel.TheVariants as labels
use Rattle.lalrpop_lr1_interpret.proofs.TreeListLemmas.{either_order, leaf_added}
use Rattle.lalrpop_lr1_interpret.proofs.parse.tree_list.TreeList.push_leaf.Goals as goal

pub invariant_of-self : goal.invariant_of-self
invariant_of-self c =
    let es = c.args.self.now.entries.items in
    let more = es ++ record { label = labels.Leaf c.args.terminal c.args.span; size = 1 } ∷ [] in
    let order = c.args.self.now.in_order in
    record {
      in_order = either_order (is_ok c.push.result) es more c.push.new.self.items c.push.ensures.items order
          (leaf_added es more c.args.terminal c.args.span (listed_views c.args.self.now) order refl refl).0;
    }

pub returns-clause-leaf : goal.returns-clause-leaf
returns-clause-leaf c =
    (leaf_added c.args.self.now.entries.items c.push.new.self.items c.args.terminal c.args.span (listed_views c.args.self.now)
    c.args.self.now.in_order refl c.in_ok-push.ensures.items).1
