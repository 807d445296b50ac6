use Rattle.std.proofs.Common.{◌∙◌, ap}
use Rattle.lalrpop_lr1_interpret.specs.TreeEntries.{tree_entry_views}
use Rattle.lalrpop_lr1_interpret.proofs.MoveOrderLemmas.{has_sizes, trees_are}
use Rattle.lalrpop_lr1_interpret.proofs.TreeListLemmas.{first_kept}
use Rattle.lalrpop_lr1_interpret.proofs.parse.tree_list.TreeList.truncate.Goals as goal

pub invariant_of-self : goal.invariant_of-self
invariant_of-self c =
    let q = c.requires in
    let es = c.args.self.now.entries.items in
    record {
      in_order = has_sizes (tree_entry_views c.truncate.new.self.items) q.first
          (ap tree_entry_views c.truncate.ensures.items
          ∙ first_kept es q.first q.others c.args.len c.args.self.now.in_order q.parts q.size_is);
    }

pub returns : goal.returns
returns c = λ first others e n.
    trees_are (tree_entry_views c.truncate.new.self.items) first
    (ap tree_entry_views c.truncate.ensures.items ∙ first_kept c.args.self.now.entries.items first others c.args.len c.args.self.now.in_order e n)
