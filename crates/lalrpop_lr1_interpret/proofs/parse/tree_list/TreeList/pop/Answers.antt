use Rattle.std.proofs.Common.{◌≡◌, ◌∙◌, ◌-◌, ◌<◌, ap, arith, drop, length, rules, subst, sym, take}
use Rattle.lalrpop_lr1_interpret.specs.MoveOrders.{HasTreeSizes, IsMoveOrder, trees_of}
use Rattle.lalrpop_lr1_interpret.specs.Stacks.{◌beside◌}
use Rattle.lalrpop_lr1_interpret.specs.TreeEntries.{tree_entry_views}
use Rattle.lalrpop_lr1_interpret.proofs.LentLemmas.{parts_at}
use Rattle.lalrpop_lr1_interpret.proofs.TreeListLemmas.{cut_order}
use Rattle.lalrpop_lr1_interpret.proofs.parse.tree_list.TreeList.pop.Goals as goal

pub overflow_sub-len-2 : goal.overflow_sub-len-2
overflow_sub-len-2 c =
    let list = c.args.self.now in
    let es = list.entries.items in
    let some : 0 < length es = search rules in
    let parts = parts_at es c.index.result.now (c.len.result - 1) list.in_order some (omega (arith, c.len.ensures, list.entries.ok))
    c.index.ensures in
    omega (arith, parts.within, c.len-2.ensures, list.entries.ok)

pub invariant_of-self : goal.invariant_of-self
invariant_of-self c =
    let list = c.args.self.now in
    let es = list.entries.items in
    let size = c.index.result.now.size in
    let some : 0 < length es = search rules in
    let parts = parts_at es c.index.result.now (c.len.result - 1) list.in_order some (omega (arith, c.len.ensures, list.entries.ok))
    c.index.ensures in
    let long : c.len-2.result ≡ length es = omega (arith, c.len-2.ensures, list.entries.ok) in
    record {
      in_order = cut_order c.split_off.result list.entries c.split_off.new.self (take (c.len-2.result - size) es)
          c.split_off.ensures.items c.split_off.ensures.err list.in_order
          (subst (λ n. HasTreeSizes (tree_entry_views (take (n - size) es))) (sym long) parts.before);
    }

pub invariant_of-result : goal.invariant_of-result
invariant_of-result c =
    let list = c.args.self.now in
    let es = list.entries.items in
    let size = c.index.result.now.size in
    let some : 0 < length es = search rules in
    let parts = parts_at es c.index.result.now (c.len.result - 1) list.in_order some (omega (arith, c.len.ensures, list.entries.ok))
    c.index.ensures in
    let long : c.len-2.result ≡ length es = omega (arith, c.len-2.ensures, list.entries.ok) in
    record {
      in_order = subst (λ l. IsMoveOrder (tree_entry_views l)) (sym (c.in_ok-entries.ensures.tail ∙ ap (λ n. drop (n - size) es) long))
          parts.own;
    }

pub returns : goal.returns
returns c =
    let list = c.args.self.now in
    let es = list.entries.items in
    let size = c.index.result.now.size in
    let k = length es - size in
    let some : 0 < length es = search rules in
    let parts = parts_at es c.index.result.now (c.len.result - 1) list.in_order some (omega (arith, c.len.ensures, list.entries.ok))
    c.index.ensures in
    let long : c.len-2.result ≡ length es = omega (arith, c.len-2.ensures, list.entries.ok) in
    let front : c.split_off.new.self.items ≡ take k es = c.in_ok-entries.ensures.items ∙ ap (λ n. take (n - size) es) long in
    let back : c.in_ok-entries.entries.items ≡ drop k es = c.in_ok-entries.ensures.tail ∙ ap (λ n. drop (n - size) es) long in
    parts.trees ∙ ap (λ l. trees_of (tree_entry_views l) beside trees_of (tree_entry_views (drop k es))) (sym front)
    ∙ ap (λ l. trees_of (tree_entry_views c.split_off.new.self.items) beside trees_of (tree_entry_views l)) (sym back)
