use Rattle.std.proofs.Common.{◌∙◌, ◌-◌, ◌<◌, ap, drop, get_or, length, rules, subst, sym}
use Rattle.lalrpop_lr1_interpret.specs.MoveOrders.{HasTreeSizes, IsMoveOrder, trees_of}
use Rattle.lalrpop_lr1_interpret.specs.Stacks.{◌beside◌}
use Rattle.lalrpop_lr1_interpret.specs.TreeEntries.{tree_entry_views}
use Rattle.lalrpop_lr1_interpret.proofs.LentLemmas.{parts_before_last}
use Rattle.lalrpop_lr1_interpret.proofs.parse.tree_ref.TreeRefs.split_last.Goals as goal

pub overflow_sub-all-2 : goal.overflow_sub-all-2
overflow_sub-all-2 c =
    let some : 0 < length c.args.self.entries.now = search rules in
    (parts_before_last c.args.self.entries.now c.index-all-all.result c.args.self.in_order some).within

pub invariant_of-result : goal.invariant_of-result
invariant_of-result c =
    let some : 0 < length c.args.self.entries.now = search rules in
    let parts = parts_before_last c.args.self.entries.now c.index-all-all.result c.args.self.in_order some in
    record { in_order = subst (λ l. HasTreeSizes (tree_entry_views l)) (sym c.split_at.ensures.front) parts.before }

pub invariant_of-result-2 : goal.invariant_of-result-2
invariant_of-result-2 c =
    let some : 0 < length c.args.self.entries.now = search rules in
    let parts = parts_before_last c.args.self.entries.now c.index-all-all.result c.args.self.in_order some in
    record { in_order = subst (λ l. IsMoveOrder (tree_entry_views l)) (sym c.split_at.ensures.back) parts.own }

pub returns : goal.returns
returns c =
    let es = c.args.self.entries.now in
    let some : 0 < length es = search rules in
    let parts = parts_before_last es c.index-all-all.result c.args.self.in_order some in
    let k = length es - (get_or es (length es - 1) c.index-all-all.result).size in
    parts.trees
    ∙ ap (λ l. trees_of (tree_entry_views l) beside trees_of (tree_entry_views (drop k es))) (sym c.split_at.ensures.front)
    ∙ ap (λ l. trees_of (tree_entry_views c.split_at.result.0.now) beside trees_of (tree_entry_views l)) (sym c.split_at.ensures.back)
